-- The test of an entry: over the entries that it was made of, and in the words of the law. Assumes nothing.
use mathlib.Core.Path.{◌≡◌, refl, ap}
use mathlib.Core.Logic.{◌↔◌}
use mathlib.Core.Bool.{Bool, true, false, not, ◌||◌, ◌&&◌}
use Prim.Native.Nat.{ℕ, zero, suc, ◌-◌, ◌<◌}
use native.Mathlib.Omega.{arith}
use lib.Dec.{ltb}
use borrow.Author.Tests.{ltb-true, lt-ltb, not-false}
use Rattle.laws.proofs.Tests.{neither}
use Rattle.tables.specs.Law.{Law, Tests}
use Rattle.entries.specs.Entries.{breaks, entry_broken, KeepsLaw}

-- Of two numbers the rule says what it says of the entries that they are; nothing stands before entry 0.
pub breaks_entry : (N Q : ℕ) (test : ℕ → ℕ → Bool) (e : ℕ → ℕ) (j p q : ℕ) → (0 < j → p ≡ e (j - 1)) → q ≡ e j
    → breaks N Q test j p q ≡ entry_broken N Q test e j
unfolding entry_broken
breaks_entry N Q test e zero p q f g = ap (breaks N Q test 0 p) g
breaks_entry N Q test e (suc j) p q f g = rw (f (omega arith), g) refl

module _ (N Q : ℕ) (test : ℕ → ℕ → Bool) (e : ℕ → ℕ) where
  -- an entry that keeps its rule is below Q
  pub entry_below : (j : ℕ) → j < N → entry_broken N Q test e j ≡ false → e j < Q
  unfolding entry_broken
  entry_below j h g = ltb-true (e j) Q (not-false _ (neither _ _ (rw (lt-ltb j N h) at g)).0)

  -- and a later one passes the test with the one before
  entry_follows : (j : ℕ) → suc j < N → entry_broken N Q test e (suc j) ≡ false → test (e j) (e (suc j)) ≡ true
  unfolding entry_broken
  entry_follows j h g =
      let p : suc j - 1 ≡ j = omega arith in
      let k : (not (ltb (e (suc j)) Q) || (ltb 0 (suc j) && not (test (e (suc j - 1)) (e (suc j))))) ≡ false = (rw (lt-ltb (suc j) N h) at g) in
      let m : (ltb 0 (suc j) && not (test (e (suc j - 1)) (e (suc j)))) ≡ false = (neither (not (ltb (e (suc j)) Q)) _ k).1 in
      let n : not (test (e (suc j - 1)) (e (suc j))) ≡ false = (rw (lt-ltb 0 (suc j) (omega arith)) at m) in
      not-false (test (e j) (e (suc j))) (rw p at n)

  -- a first entry below Q keeps its rule
  first_kept : 0 < N → e 0 < Q → entry_broken N Q test e 0 ≡ false
  unfolding entry_broken
  first_kept h g = rw (lt-ltb 0 N h, lt-ltb (e 0) Q g) refl

  -- and so does a later one that passes the test with the one before
  later_kept : (j : ℕ) → suc j < N → e (suc j) < Q → test (e j) (e (suc j)) ≡ true → entry_broken N Q test e (suc j) ≡ false
  unfolding entry_broken
  later_kept j h g l =
      let p : suc j - 1 ≡ j = omega arith in
      rw (lt-ltb (suc j) N h, lt-ltb (e (suc j)) Q g, lt-ltb 0 (suc j) (omega arith), p, l) refl

  -- So no entry before N breaks its rule exactly where all are below Q and keep the law, whatever the law.
  pub keeps_law : {law : Law} → Tests test law → ((j : ℕ) → j < N → entry_broken N Q test e j ≡ false) ↔ KeepsLaw law N Q e
  keeps_law {law} tests = (to, from)
    where
      to : ((j : ℕ) → j < N → entry_broken N Q test e j ≡ false) → KeepsLaw law N Q e
      to k = record {
        below = λ j h. entry_below j h (k j h);
        follows = λ j h. (tests (e j) (e (suc j))).0 (entry_follows j h (k (suc j) h));
      }

      from : KeepsLaw law N Q e → (j : ℕ) → j < N → entry_broken N Q test e j ≡ false
      from k zero h = first_kept h (k.below 0 h)
      from k (suc j) h = later_kept j h (k.below (suc j) h) ((tests (e j) (e (suc j))).1 (k.follows j h))
