-- Every question has an answer that keeps the promise, under any law that has a test: its cases are exhaustive. Assumes nothing.
use mathlib.Core.Path.{◌≡◌, refl}
use mathlib.Core.Logic.{◌⊎◌, inl, inr}
use mathlib.Core.Bool.{Bool, true, false}
use mathlib.Core.Option.{Option, none, some}
use mathlib.Core.List.{List, []}
use Prim.Native.Nat.{ℕ, zero, suc, ◌+◌, ◌≤◌, ◌<◌}
use native.Mathlib.Decide.{dec_le}
use native.Mathlib.Omega.{arith}
use Rattle.std.specs.Prelude.{Ok, Err}
use Rattle.laws.proofs.Tests.{cases}
use Rattle.criteria.specs.Choice.{Problem, InBudget}
use Rattle.criteria.proofs.Decide.{dec_×}
use Rattle.criteria.proofs.Finite.{Finite, some_of}
use Rattle.tables.specs.declared.refusal.Refusal.{Refusal}
use Rattle.tables.specs.declared.refusal.Refusal.TheVariants as refusal
use Rattle.tables.specs.Law.{Tests}
use Rattle.tables.specs.Tables.{Table, table_under, series, planning, scan_start}
use Rattle.tables.specs.Legal.{no_weights}
use Rattle.tables.proofs.LawLaws.{tested?}
use Rattle.tables.proofs.Listing.{table_finite}
use Rattle.tables.proofs.Beginnings.{way_alike}
use Rattle.tables.proofs.CellLaws.{scans_end}
use Rattle.legal.proofs.LegalLaws.{lowest_or_run, all_of_run}
use Rattle.fits.specs.Fits.{Question, series_asked, Beginning, LegalScan, LowestOfScan, IsRead, fits_refusal, early, seven, none_fits, one_fits}
use Rattle.fits.proofs.ReadLaws.{ready, lengths_right, scans_legal}
use Rattle.fitting.specs.Fitting.{SomeFits}

module _ (a : Question) {test : ℕ → ℕ → Bool} (tests : Tests test a.law) where
  -- whether there is an allowed beginning of k scans within the budget: the first k scans are a table of their own
  some_beginning : 1 ≤ a.Q → (k : ℕ) → ((s : List ℕ) × Beginning a k s) ⊎ ((s : List ℕ) → Beginning a k s → ⊥)
  some_beginning q k = of (some_of P fin (InBudget P a.budget) (λ t. dec_× (fin.decide t) (dec_le (P.rate t) a.budget)) (λ t w. w.0))
    where
      first_scans : Table
      first_scans = table_under a.law k a.Q a.rates a.distortions []

      P : Problem
      P = planning first_scans

      fin : Finite P
      fin = table_finite first_scans (tested? tests)

      of : ((t : List ℕ) × InBudget P a.budget t) ⊎ ((t : List ℕ) → InBudget P a.budget t → ⊥) → ((s : List ℕ) × Beginning a k s) ⊎ ((s : List ℕ) → Beginning a k s → ⊥)
      of (inl t) = inl (t.0, way_alike (series first_scans) (series_asked a) k (record { settings = refl; may = λ i p q h g l m. m; rate = λ i p q h g l. refl }) {s = t.0} (omega arith) q (record { long = t.1.0.0; kept = t.1.0.1; fits = t.1.1 }))
      of (inr n) = inr (λ s w.
          let x = way_alike (series_asked a) (series first_scans) k (record { settings = refl; may = λ i p q h g l m. m; rate = λ i p q h g l. refl }) {s = s} (omega arith) q w in
          n s ((x.long, x.kept), x.fits))

  module _ (passed : fits_refusal a ≡ none) where
    -- from scan k on, of which n are left
    onward : (n k : ℕ) → k + n ≡ a.N → ((j : ℕ) → j < k → LegalScan a j) → (s : List ℕ) × Beginning a k s → SomeFits a
    onward zero k e l b = record {
      answer = Ok true;
      promised = one_fits (record {
        passed = passed;
        legal = all_of_run no_weights a.rates a.distortions (omega (arith, (lengths_right a passed).0, scans_end a.N a.Q (ready a passed).some_scans)) (scans_legal a a.N (λ j h. l j (omega arith)));
        plan = b.0;
        within = ((omega (arith, b.1.long), b.1.kept), b.1.fits);
      });
    }
    onward (suc n) k e l b =
        judged (lowest_or_run no_weights a.rates a.distortions (scan_start a.Q k) (scan_start a.Q (suc k))) (some_beginning (ready a passed).some_settings (suc k)) (onward n (suc k) (omega arith))
      where
        read : IsRead a k
        read = record { inside = omega arith; legal = l; beginning = b.0; within = b.1 }

        judged : ((c : ℕ) × LowestOfScan a k c) ⊎ LegalScan a k → ((s : List ℕ) × Beginning a (suc k) s) ⊎ ((s : List ℕ) → Beginning a (suc k) s → ⊥) →
            (((j : ℕ) → j < suc k → LegalScan a j) → (s : List ℕ) × Beginning a (suc k) s → SomeFits a) → SomeFits a
        judged (inl f) d next = record { answer = Err (refusal.Cell f.0); promised = seven {c = f.0} (record { passed = passed; scan = k; read = read; lowest = f.1 }) }
        judged (inr w) (inl s) next = next (λ j h. cases j k (λ u. l j u) (λ u. let e : j ≡ k = omega arith in rw e w)) s
        judged (inr w) (inr o) next = record { answer = Ok false; promised = none_fits (record { passed = passed; scan = k; read = read; legal = w; over = o }) }

  pub fits_some : SomeFits a
  fits_some = of (fits_refusal a) refl
    where
      of : (o : Option Refusal) → fits_refusal a ≡ o → SomeFits a
      of (some r) e = record { answer = Err r; promised = early {r = r} e }
      of none e = onward e a.N 0 (omega arith) (λ j h. absurd (omega arith)) ([], record { long = refl; kept = tt; fits = omega arith })
