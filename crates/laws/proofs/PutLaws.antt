-- Text after text in a lent buffer. Assumes nothing.
use mathlib.Core.Path.{◌≡◌, ap, ◌∙◌}
use mathlib.Core.List.{List, ◌++◌}
use Prim.Native.Nat.{ℕ, ◌+◌}
use native.Mathlib.Omega.{arith}
use lib.ListN.{length, length-append}
use lib.Seq.{sets}
use Rattle.laws.proofs.Stores.{sets_append}
use Rattle.laws.specs.Put.{Put}

-- what `put` ensures
pub put_so : {d o : List ℕ} {at r : ℕ} (t : List ℕ) → (r ≡ at + length t) × (o ≡ sets d at t) → Put d at t o r
put_so t p = record { so = p.1; end = p.0 }

-- a text, and another right behind it
pub next : {d o o' t u : List ℕ} {at r r' : ℕ} → Put d at t o r → Put o r u o' r' → Put d at (t ++ u) o' r'
next {d} {o} {o'} {t} {u} {at} {r} {r'} p q = record {
  so = q.so ∙ ap (λ (x : List ℕ). sets x r u) p.so ∙ sets_append d t u at r p.end;
  end = omega (arith, length-append t u, p.end, q.end);
}

-- the same text, written another way
pub same_text : {d o t u : List ℕ} {at r : ℕ} → t ≡ u → Put d at t o r → Put d at u o r
same_text {d} {o} {t} {u} {at} {r} e p = record {
  so = p.so ∙ ap (sets d at) e;
  end = p.end ∙ ap (λ (x : List ℕ). at + length x) e;
}
