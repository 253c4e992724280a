-- The step laws, one home for all that is known of their numbers: what each allows (`law_of`), the same as a test (`allows`) and which
-- numbers are laws (`law_out`). A further law is a line of each and of the three functions of src/law.rt, a lemma for its run, and its case
-- where proofs/LawLaws and the proofs of those functions go by number. No proof but those and the P list's opens the three (`unfolding`), so
-- that none else tells one law from another. Assumes nothing.
use Rattle.std.specs.Prelude.{◌≡◌, ◌↔◌, Bool, true, false, not, ◌||◌, ◌&&◌, ℕ, zero, suc, ◌+◌, ◌≤◌, ◌<◌, eqb, leb}

-- "a law being only a statement of which pairs it allows": q may follow p
abbrev pub Law : Type 1
Law = ℕ → ℕ → Type 0

-- a test of a law says yes of the pairs that it allows and of no other
abbrev pub Tests : (ℕ → ℕ → Bool) → Law → Type 0
Tests test law = (p q : ℕ) → (test p q ≡ true) ↔ law p q

-- "any change between scans"
abbrev pub any_step : Law
any_step p q = Unit {0}

-- "consecutive settings differ by at most 2"
abbrev pub within_two : Law
within_two p q = (p ≤ q + 2) × (q ≤ p + 2)

-- "can go to a finer (lower) setting by any amount, and to a coarser one by at most two"; an equal one is neither finer nor coarser
abbrev pub two_coarser : Law
two_coarser p q = q ≤ p + 2

-- "Step law 0 .. Step law 1 ..", "That is law 2.": any other number is no law, and allows nothing
unfoldable pub law_of : ℕ → Law
law_of zero = any_step
law_of (suc zero) = within_two
law_of (suc (suc zero)) = two_coarser
law_of (suc (suc (suc k))) = λ p q. ⊥

-- the same as a test
unfoldable pub allows : ℕ → ℕ → ℕ → Bool
allows zero p q = true
allows (suc zero) p q = leb p (q + 2) && leb q (p + 2)
allows (suc (suc zero)) p q = leb q (p + 2)
allows (suc (suc (suc k))) p q = false

-- the numbers that are none; "3 now means a law other than 0, 1 or 2"
unfoldable pub law_out : ℕ → Bool
law_out law = not (eqb law 0 || eqb law 1 || eqb law 2)

-- the law speaks of consecutive settings: nothing stands before scan 0
abbrev pub Follows : Law → ℕ → ℕ → ℕ → Type 0
Follows law zero p q = Unit {0}
Follows law (suc i) p q = law p q

-- the settings below k that a law lets follow p are those from `from` up to and without `to`
pub record SideBySide (law : Law) (p k from to : ℕ) : Type 0 where
  pub order : from ≤ to
  pub inside : to ≤ k
  pub reached : (q : ℕ) → q < k → law p q → (from ≤ q) × (q < to)
  pub allowed : (q : ℕ) → from ≤ q → q < to → law p q
