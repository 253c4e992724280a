-- What goes back to a host. Assumes nothing.
use Rattle.std.specs.Prelude.{◌≡◌, cond, List, [], ◌∷◌, ◌++◌, ℕ, ◌+◌, ◌*◌, ◌^◌, eqb, ltb, length, get_or, drop}
use Rattle.tables.specs.Refusals.{Reply}
use Rattle.octets.specs.Bytes.{le}

-- the number that goes back
unfoldable pub word_of : Reply → ℕ
word_of reply = cond (eqb reply.number 0) 0 (reply.number + 2 ^ 32 * get_or reply.values 0 0)

-- the bytes of an answer
abbrev pub eights : List ℕ → List ℕ
eights [] = []
eights (x ∷ v) = le 8 x ++ eights v

-- the answer buffer after a call: a refusal changes no byte of it, and bytes past the answer never change
unfoldable pub answer_after : Reply → List ℕ → List ℕ
answer_after reply answer = cond (eqb reply.number 0) (eights reply.values ++ drop (8 * length reply.values) answer) answer

-- what a call tells
abbrev pub Told : Reply → (answer : List ℕ) → (word : ℕ) → (answer' : List ℕ) → Type 0
Told reply answer word answer' = (word ≡ word_of reply) × (answer' ≡ answer_after reply answer)

-- Where a buffer is asked for that holds N settings, or the text of an export, the answer buffer is asked for with it: one that is too short
-- counts as if no byte were lent for them. That is refusal 6 for every N; a text may have no byte, so an export asks once more.
abbrev pub lent : (need answer room : ℕ) → ℕ
lent need answer room = cond (ltb answer need) 0 room
