-- Document 02, [7]: "Where all cells are legal the yes or no must equal the full answer (8 and 9 both count as no).", "and read no further". Assumes
-- nothing.
use Rattle.std.specs.Prelude.{◌≡◌, ◌↔◌, ◌⊎◌, List, ℕ, suc, ◌≤◌, ◌<◌, length, get_or}
use Rattle.std.proofs.Math.Option.{some}
use Rattle.tables.specs.declared.refusal.Refusal.{Refusal}
use Rattle.tables.specs.declared.refusal.Refusal.TheVariants as refusal
use Rattle.tables.specs.Refusals.{Reply, refused, number_of}
use Rattle.tables.specs.Tables.{scan_start}
use Rattle.checks.specs.Planning.{Asked}
use Rattle.fits.specs.Fits.{FitsAnswer, Question, question_under, IsRead, fits_refusal, Seven, NoneFits, OneFits, says_yes, says_no, fits_reply, FitsPromise}

-- each case of the promise is the answer exactly when it is so
pub record FitsExactly (a : Question) (reply : Reply) : Type 0 where
  pub early : (r : Refusal) → (fits_refusal a ≡ some r) ↔ ((reply ≡ refused r) × (number_of r ≡ 7 → ⊥))
  pub seven : (c : ℕ) → (reply ≡ refused (refusal.Cell c)) ↔ Seven a c
  pub no : (reply ≡ says_no) ↔ NoneFits a
  pub yes : (reply ≡ says_yes) ↔ OneFits a

-- an answer of which the promise is true
pub record SomeFits (a : Question) : Type 0 where
  pub answer : FitsAnswer
  pub promised : FitsPromise a (fits_reply answer)

-- the same question of other tables, and with another budget
abbrev pub with_tables : Question → (rates distortions : List ℕ) → Question
with_tables a rates distortions = question_under a.lawless a.law a.N a.Q a.budget rates distortions

abbrev pub with_budget : Question → ℕ → Question
with_budget a B = question_under a.lawless a.law a.N a.Q B a.rates a.distortions

-- "read no further": two pairs of tables of equal lengths that agree on the scans that are read
pub record SameWhereRead (a : Question) (rates distortions : List ℕ) : Type 0 where
  pub rates_long : length a.rates ≡ length rates
  pub distortions_long : length a.distortions ≡ length distortions
  pub rate : (k : ℕ) → IsRead a k → (c : ℕ) → scan_start a.Q k ≤ c → c < scan_start a.Q (suc k) → get_or a.rates c 0 ≡ get_or rates c 0
  pub distortion : (k : ℕ) → IsRead a k → (c : ℕ) → scan_start a.Q k ≤ c → c < scan_start a.Q (suc k) → get_or a.distortions c 0 ≡ get_or distortions c 0

-- the question that a planning call with a budget is asked, without its weights and its buffers
abbrev pub question_of : Asked → ℕ → Question
question_of a B = question_under a.lawless a.law a.N a.Q B a.rates a.distortions

-- "the yes or no must equal the full answer (8 and 9 both count as no)"
pub record AsPlanned (fits planned : Reply) : Type 0 where
  pub yes : (fits ≡ says_yes) ↔ (planned.number ≡ 0)
  pub no : (fits ≡ says_no) ↔ ((planned.number ≡ 8) ⊎ (planned.number ≡ 9))
