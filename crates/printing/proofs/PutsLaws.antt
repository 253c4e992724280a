-- Text behind text in a buffer. Assumes nothing.
use Rattle.std.proofs.Common.{◌≡◌, refl, ◌∙◌, List, [], ◌++◌, ℕ, arith}
use Rattle.laws.proofs.PutLaws.{next, same_text}
use Rattle.printing.specs.declared.put.Text.{Text}
use Rattle.printing.specs.Puts.{Puts}

-- no text yet
pub nothing : (t : Text) → Puts t [] t
nothing t = record { same_buffer = refl; as_long = refl; put = record { so = refl; end = omega arith } }

-- a text, and another right behind it
pub behind : {t t' t'' : Text} {a b : List ℕ} → Puts t a t' → Puts t' b t'' → Puts t (a ++ b) t''
behind p q = record { same_buffer = q.same_buffer ∙ p.same_buffer; as_long = q.as_long ∙ p.as_long; put = next p.put q.put }

-- the same text, written another way
pub written : {t t' : Text} {a b : List ℕ} → a ≡ b → Puts t a t' → Puts t b t'
written e p = record { same_buffer = p.same_buffer; as_long = p.as_long; put = same_text e p.put }
