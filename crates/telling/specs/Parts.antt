-- What the functions inside the surface ask and promise. Assumes nothing.
use Rattle.std.specs.Prelude.{◌≡◌, List, ℕ, ◌*◌, ◌≤◌, ◌<◌, ◌^◌, length, get_or, Result, Ok, Err}
use Rattle.tables.specs.declared.refusal.Refusal.{Refusal}
use Rattle.tables.specs.Refusals.{Reply, refused, answered}

-- as many values as the longest answer has, that of the reader
abbrev pub most_values : ℕ
most_values = 13

-- What can be told: an answer whose values the buffer holds, or a refusal that carries less than 2 ^ 32.
pub record Tellable (reply : Reply) (room : ℕ) : Type 0 where
  pub holds : reply.number ≡ 0 → 8 * length reply.values ≤ room
  pub small : (reply.number ≡ 0 → ⊥) → get_or reply.values 0 0 < 2 ^ 32

-- the number and the values that an answer says
abbrev pub answer_reply : Result (List ℕ) Refusal → Reply
answer_reply (Ok v) = answered v
answer_reply (Err r) = refused r
