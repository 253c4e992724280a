-- The step laws: the test says what the law does, and one lemma a law says that the run is exactly what it allows. No proof outside this
-- module splits on a law's number, but for those of the functions of src/law.rt. Assumes nothing.
use mathlib.Core.Path.{◌≡◌, refl}
use mathlib.Core.Logic.{◌↔◌}
use mathlib.Core.Bool.{Bool, true, false}
use Prim.Native.Nat.{ℕ, zero, suc, ◌+◌, ◌-◌, ◌<◌, min}
use native.Mathlib.Omega.{arith}
use lib.Dec.{leb}
use borrow.Author.Tests.{leb-true, le-leb}
use Rattle.std.proofs.lemmas.Bool.Decides.{nat_tests}
use Rattle.laws.proofs.Tests.{never, both}
use Rattle.tables.specs.Law.{Law, Tests, law_of, allows, law_out, SideBySide}

-- ---- a law and a test of it, whatever the law

-- no pair passes a test that fails
pub fails : {A : Type 0} → (false ≡ true) ↔ A → A → ⊥
fails w l = let z = w.1 l in never cc

-- a law that has a test is decided
abbrev pub tested? : {law : Law} {test : ℕ → ℕ → Bool} → Tests test law → (p q : ℕ) → Dec (law p q)
tested? {law} {test} tests p q = by (test p q) (tests p q)
  where
    by : (b : Bool) → (b ≡ true) ↔ law p q → Dec (law p q)
    by true w = yes (w.0 refl)
    by false w = no (fails w)

-- ---- the laws by number

-- the test of each says what the law does
pub allows_law : (law : ℕ) → Tests (allows law) (law_of law)
unfolding allows law_of
allows_law zero p q = ((λ e. tt), (λ w. refl))
allows_law (suc zero) p q = (
  (λ e. let b = both (leb p (q + 2)) (leb q (p + 2)) e in (leb-true _ _ b.0, leb-true _ _ b.1)),
  (λ w. rw (le-leb p (q + 2) w.0, le-leb q (p + 2) w.1) refl),
)
allows_law (suc (suc zero)) p q = ((λ e. leb-true q (p + 2) e), (λ w. le-leb q (p + 2) w))
allows_law (suc (suc (suc k))) p q = ((λ e. never cc), (λ w. absurd w))

-- so every law is decided
abbrev pub law? : (law p q : ℕ) → Dec (law_of law p q)
law? law = tested? (allows_law law)

-- a law's number fits a byte
pub known_small : (law : ℕ) → law_out law ≡ false → law < 256
unfolding law_out
known_small law e = grind (arith, nat_tests)

-- ---- the run of each law: exactly what it allows

pub any_run : (law p k : ℕ) → law ≡ 0 → SideBySide (law_of law) p k 0 k
unfolding law_of
any_run law p k e = rw e (record { order = omega arith; inside = omega arith; reached = λ q h l. (omega arith, h); allowed = λ q f t. tt })

pub within_two_run : (law p k : ℕ) {from to : ℕ} → law ≡ 1 → p < k → from ≡ p - 2 → to ≡ min (p + 3) k → SideBySide (law_of law) p k from to
unfolding law_of
within_two_run law p k e h f t = rw (e, f, t) (record {
  order = omega arith;
  inside = omega arith;
  reached = λ q g l. (omega (arith, l.0, l.1), omega (arith, l.0, l.1));
  allowed = λ q f t. (omega arith, omega arith);
})

pub two_coarser_run : (law p k : ℕ) {to : ℕ} → law ≡ 2 → to ≡ min (p + 3) k → SideBySide (law_of law) p k 0 to
unfolding law_of
two_coarser_run law p k e t = rw (e, t) (record {
  order = omega arith;
  inside = omega arith;
  reached = λ q g l. (omega arith, omega (arith, l));
  allowed = λ q f t. omega arith;
})

pub no_run : (law p k : ℕ) → 2 < law → SideBySide (law_of law) p k 0 0
unfolding law_of
no_run zero p k h = absurd (omega arith)
no_run (suc zero) p k h = absurd (omega arith)
no_run (suc (suc zero)) p k h = absurd (omega arith)
no_run (suc (suc (suc n))) p k h =
    record { order = omega arith; inside = omega arith; reached = λ q g w. absurd w; allowed = λ q f t. absurd (omega arith) }
