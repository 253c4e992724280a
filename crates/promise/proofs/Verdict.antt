-- Which answer a call with a limit gives where its checks pass. Assumes nothing.
use mathlib.Core.Path.{◌≡◌, refl}
use mathlib.Core.Logic.{◌⊎◌, inl, inr}
use mathlib.Core.List.{List}
use Prim.Native.Nat.{ℕ}
use native.Mathlib.Omega.{arith}
use Rattle.criteria.specs.Choice.{Problem, NoneAllowed, NoneWithin}
use Rattle.tables.specs.declared.refusal.Refusal.{Refusal}
use Rattle.tables.specs.Refusals.{Reply}
use Rattle.checks.specs.Planning.{Asked}
use Rattle.promise.specs.Promise.{PromiseOver, unsound, no_sequence, none_within, planned}

-- a call that passes its checks gives 0, 8 or 9, and which of them is told by the problem and the limit alone
pub record Verdict (P : Problem) (within : List ℕ → Type 0) (k : ℕ) : Type 0 where
  pub one_of : (k ≡ 0) ⊎ ((k ≡ 8) ⊎ (k ≡ 9))
  pub given : k ≡ 0 → (t : List ℕ) × within t
  pub some : (t : List ℕ) → within t → k ≡ 0
  pub eight : k ≡ 8 → NoneAllowed P
  pub none_eight : NoneAllowed P → k ≡ 8
  pub nine : k ≡ 9 → NoneWithin P within
  pub none_nine : NoneWithin P within → k ≡ 9

pub verdict : {a : Asked} {Refused : Refusal → Type 0} {Passed : Type 0} {P : Problem} {within : List ℕ → Type 0} {Plan : List ℕ → List ℕ → Type 0}
    {Same Cleared : Type 0} {plan p : List ℕ} {reply : Reply} → ((r : Refusal) → Refused r → Passed → ⊥) → ((s v : List ℕ) → Plan s v → P.allowed s × within s) →
    ((t : List ℕ) → within t → P.allowed t) → Passed → PromiseOver a Refused Passed P within Plan Same Cleared plan reply p → Verdict P within reply.number
verdict not_both is_within allowed o (unsound {r = r} u e f g) = absurd (not_both r u o)
verdict not_both is_within allowed o (no_sequence o' n e f g) = rw e (record {
  one_of = inr (inl refl);
  given = λ z. absurd (omega arith);
  some = λ t w. absurd (n t (allowed t w));
  eight = λ z. n;
  none_eight = λ z. refl;
  nine = λ z. absurd (omega arith);
  none_nine = λ z. absurd (n z.exist.0 z.exist.1);
})
verdict not_both is_within allowed o (none_within o' n e f g) = rw e (record {
  one_of = inr (inr refl);
  given = λ z. absurd (omega arith);
  some = λ t w. absurd (n.none_within t w);
  eight = λ z. absurd (omega arith);
  none_eight = λ z. absurd (z n.exist.0 n.exist.1);
  nine = λ z. n;
  none_nine = λ z. refl;
})
verdict not_both is_within allowed o (planned o' t v q e f g) = rw e (record {
  one_of = inl refl;
  given = λ z. (t, (is_within t v q).1);
  some = λ u w. refl;
  eight = λ z. absurd (omega arith);
  none_eight = λ z. absurd (z t (is_within t v q).0);
  nine = λ z. absurd (omega arith);
  none_nine = λ z. absurd (z.none_within t (is_within t v q).1);
})
