-- The call reads no further: other tables that agree on the scans that are read have the same answer, and the same scans are read of them.
-- Nor does an answer depend on a distortion beside a forbidden rate. Assumes nothing.
use mathlib.Core.Path.{◌≡◌, refl, sym, ◌∙◌}
use mathlib.Core.Logic.{◌↔◌}
use mathlib.Core.Option.{none}
use mathlib.Core.List.{List, []}
use Prim.Native.Nat.{ℕ, zero, suc, ◌≤◌, ◌<◌}
use native.Mathlib.Omega.{arith}
use lib.ListN.{get_or}
use Rattle.tables.specs.Refusals.{Reply}
use Rattle.tables.specs.Tables.{cell, scan_start, rate_at}
use Rattle.tables.specs.Legal.{LegalCell, no_weights, SameShown}
use Rattle.tables.proofs.CellLaws.{cell_in_scan, scans_end}
use Rattle.tables.proofs.Beginnings.{AlikeBefore, way_alike}
use Rattle.tables.proofs.HiddenLaws.{legal_same, shown_sym}
use Rattle.legal.proofs.LegalLaws.{all_of_run}
use Rattle.fits.specs.Fits.{Question, table_asked, series_asked, LegalScan, LowestOfScan, IsRead, fits_refusal, FitsPromise, early, seven, none_fits, one_fits}
use Rattle.fits.proofs.ReadLaws.{ready, lengths_right, scans_legal}
use Rattle.fitting.specs.Fitting.{with_tables, SameWhereRead}
use Rattle.fitting.proofs.Unique.{legal_scans, read_before, begins, fits_unique}

-- cell c is one of scan k
abbrev InScan : Question → (k c : ℕ) → Type 0
InScan a k c = (scan_start a.Q k ≤ c) × (c < scan_start a.Q (suc k))

-- Other tables, of which the checks before 7 come out alike, and whose cells in the scans that are read have the same rates and are legal alike.
module _ (a : Question) (R D : List ℕ) (checks_same : fits_refusal a ≡ fits_refusal (with_tables a R D))
    (rate_same : (k : ℕ) → IsRead a k → (c : ℕ) → InScan a k c → get_or a.rates c 0 ≡ get_or R c 0)
    (legal_to : (k : ℕ) → IsRead a k → (c : ℕ) → InScan a k c → LegalCell no_weights a.rates a.distortions c → LegalCell no_weights R D c)
    (legal_fro : (k : ℕ) → IsRead a k → (c : ℕ) → InScan a k c → LegalCell no_weights R D c → LegalCell no_weights a.rates a.distortions c) where
  abbrev b : Question
  b = with_tables a R D

  -- the rate of a step is the same
  step_same : (k : ℕ) → IsRead a k → (p q : ℕ) → p < a.Q → q < a.Q → rate_at (table_asked a) k p q ≡ rate_at (table_asked b) k p q
  step_same k r p q h g = rate_same k r (cell a.Q k p q) (cell_in_scan a.Q k p q h g)

  forward : {k : ℕ} → ((j : ℕ) → j < k → IsRead a j) → AlikeBefore (series_asked a) (series_asked b) k
  forward r = record {
    settings = refl;
    may = λ i p q h g l m. (λ e. m.0 (step_same i (r i h) p q g l ∙ e), m.1);
    rate = λ i p q h g l. step_same i (r i h) p q g l;
  }

  backward : {k : ℕ} → ((j : ℕ) → j < k → IsRead a j) → AlikeBefore (series_asked b) (series_asked a) k
  backward r = record {
    settings = refl;
    may = λ i p q h g l m. (λ e. m.0 (sym (step_same i (r i h) p q g l) ∙ e), m.1);
    rate = λ i p q h g l. sym (step_same i (r i h) p q g l);
  }

  scan_to : {k : ℕ} → IsRead a k → LegalScan a k → LegalScan b k
  scan_to {k} r l c h g = legal_to k r c (h, g) (l c h g)

  scan_fro : {k : ℕ} → IsRead a k → LegalScan b k → LegalScan a k
  scan_fro {k} r l c h g = legal_fro k r c (h, g) (l c h g)

  lowest_to : {k c : ℕ} → IsRead a k → LowestOfScan a k c → LowestOfScan b k c
  lowest_to {k} {c} r p = record {
    behind = p.behind;
    inside = p.inside;
    illegal = λ l. p.illegal (legal_fro k r c (p.behind, p.inside) l);
    lowest = λ d h g. legal_to k r d (h, omega (arith, p.inside)) (p.lowest d h g);
  }

  module _ (passed : fits_refusal a ≡ none) where
    -- what is read of the one is read of the other
    read_to : {k : ℕ} → IsRead a k → IsRead b k
    read_to {k} r = record {
      inside = r.inside;
      legal = λ j h. scan_to (read_before (omega arith) r) (r.legal j h);
      beginning = r.beginning;
      within = way_alike (series_asked a) (series_asked b) k (forward (λ j h. read_before (omega arith) r)) {s = r.beginning} (omega arith) (ready a passed).some_settings r.within;
    }

    read_fro : (k : ℕ) → IsRead b k → IsRead a k
    read_fro zero r = record { inside = r.inside; legal = λ j h. absurd (omega arith); beginning = []; within = record { long = refl; kept = tt; fits = omega arith } }
    read_fro (suc k) r =
        let o = read_fro k (read_before (omega arith) r) in
        record {
          inside = r.inside;
          legal = λ j h. scan_fro (read_before (omega arith) o) (r.legal j h);
          beginning = r.beginning;
          within = way_alike (series_asked b) (series_asked a) (suc k) (backward (λ j h. read_before (omega arith) o)) {s = r.beginning} (omega arith) (ready a passed).some_settings r.within;
        }

  -- what is promised of the one is promised of the other
  moves : {z : Reply} → FitsPromise a z → FitsPromise b z
  moves (early e) = early (sym checks_same ∙ e)
  moves (seven s) = seven (record { passed = sym checks_same ∙ s.passed; scan = s.scan; read = read_to s.passed s.read; lowest = lowest_to s.read s.lowest })
  moves (none_fits n) = none_fits (record {
    passed = sym checks_same ∙ n.passed;
    scan = n.scan;
    read = read_to n.passed n.read;
    legal = scan_to n.read n.legal;
    over = λ s w. n.over s (way_alike (series_asked b) (series_asked a) (suc n.scan) (backward (λ j h. read_before (omega arith) n.read)) {s = s} (omega arith) (ready a n.passed).some_settings w);
  })
  moves (one_fits o) = one_fits (record {
    passed = sym checks_same ∙ o.passed;
    legal = all_of_run no_weights R D (omega (arith, (lengths_right b (sym checks_same ∙ o.passed)).0, scans_end a.N a.Q (ready a o.passed).some_scans))
        (scans_legal b a.N (λ j h. scan_to (all_read j h) (legal_scans a o.passed o.legal j h)));
    plan = o.plan;
    within =
        let w = way_alike (series_asked a) (series_asked b) a.N (forward all_read) {s = o.plan} (omega arith) (ready a o.passed).some_settings (record { long = o.within.0.0; kept = o.within.0.1; fits = o.within.1 }) in
        ((w.long, w.kept), w.fits);
  })
    where
      -- where something fits, every scan is read
      all_read : (j : ℕ) → j < a.N → IsRead a j
      all_read j h = let w = begins {k = j} o (omega arith) in record { inside = h; legal = λ i g. legal_scans a o.passed o.legal i (omega arith); beginning = w.0; within = w.1 }

module _ {a : Question} {R D : List ℕ} (same : SameWhereRead a R D) where
  checks_same : fits_refusal a ≡ fits_refusal (with_tables a R D)
  unfolding fits_refusal
  checks_same = rw (same.rates_long, same.distortions_long) refl

  cell_to : (k : ℕ) → IsRead a k → (c : ℕ) → InScan a k c → LegalCell no_weights a.rates a.distortions c → LegalCell no_weights R D c
  cell_to k r c h l = rw (same.rate k r c h.0 h.1, same.distortion k r c h.0 h.1) at l

  cell_fro : (k : ℕ) → IsRead a k → (c : ℕ) → InScan a k c → LegalCell no_weights R D c → LegalCell no_weights a.rates a.distortions c
  cell_fro k r c h l = rw (same.rate k r c h.0 h.1, same.distortion k r c h.0 h.1) l

  -- "read no further": two pairs of tables that agree on the scans that are read have one answer
  pub reads_only : {z z' : Reply} → FitsPromise a z → FitsPromise (with_tables a R D) z' → z ≡ z'
  reads_only h h' = fits_unique (moves a R D checks_same (λ k r c i. same.rate k r c i.0 i.1) cell_to cell_fro h) h'

  -- .. and the same scans are read of both
  pub read_settled : fits_refusal a ≡ none → (k : ℕ) → IsRead a k ↔ IsRead (with_tables a R D) k
  read_settled passed k = (
    read_to a R D checks_same (λ k r c i. same.rate k r c i.0 i.1) cell_to cell_fro passed,
    read_fro a R D checks_same (λ k r c i. same.rate k r c i.0 i.1) cell_to cell_fro passed k,
  )

-- "Beside a forbidden rate the distortion may be any value and no answer depends on it"
pub fits_hidden : {a : Question} (D : List ℕ) → SameShown a.rates a.distortions D → {z : Reply} → FitsPromise a z → FitsPromise (with_tables a a.rates D) z
unfolding fits_refusal
fits_hidden {a} D shown =
    moves a a.rates D (rw shown.long refl) (λ k r c i. refl) (λ k r c i. legal_same no_weights shown c) (λ k r c i. legal_same no_weights (shown_sym shown) c)
