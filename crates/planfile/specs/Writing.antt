-- What the writer answers. Assumes nothing.
use Rattle.std.specs.Prelude.{Bool, false, ◌||◌, List, [], ◌∷◌, ◌++◌, ℕ, ltb, length, get_or, drop, Result, Ok, Err}
use Rattle.std.proofs.Math.Option.{Option, none, some}
use Rattle.rules.specs.declared.Faults.{Faults}
use Rattle.tables.specs.declared.refusal.Refusal.{Refusal}
use Rattle.tables.specs.declared.refusal.Refusal.TheVariants as refusal
use Rattle.tables.specs.Refusals.{Reply, refused, answered}
use Rattle.checks.specs.Checks.{first_refusal, or_answer, first_from, when, found}
use Rattle.rules.specs.declared.Fields.{Fields}
use Rattle.blocks.specs.Letters.{qpl2}
use Rattle.blocks.specs.File.{file_of, file_length}
use Rattle.tables.specs.Law.{allows, law_out}
use Rattle.rules.specs.Rules.{header_rules}
use Rattle.entries.specs.Entries.{entry_broken}

-- what is written has its letters, its zeros and its length
abbrev pub no_faults : Faults
no_faults = record { letters = false; length = false; run_13 = false; run_14 = false; run_48 = false }

-- 6: "where its settings slice is under N or its buffer too short"
abbrev pub write_short : (N settings file : ℕ) → Bool
write_short N settings file = ltb settings N || ltb file (file_length N)

-- "the writer 13, 6, 14"; room is the length of the lent file buffer. Of the law it asks what the reader asks.
abbrev pub writer_checks_under : (lawless : Bool) → (ℕ → ℕ → Bool) → Fields → List ℕ → ℕ → List (Option Refusal)
writer_checks_under lawless test f settings room =
    first_refusal (header_rules lawless no_faults f)
    ∷ when (write_short f.scans (length settings) room) refusal.Buffer
    ∷ found refusal.Entry (first_from (entry_broken f.scans f.settings test (λ j. get_or settings j 0)) 0 f.scans)
    ∷ []

unfoldable pub write_refusal_under : (lawless : Bool) → (ℕ → ℕ → Bool) → Fields → List ℕ → ℕ → Option Refusal
write_refusal_under lawless test f settings room = first_refusal (writer_checks_under lawless test f settings room)

-- .. with the law by its number
abbrev pub writer_checks : Fields → List ℕ → ℕ → List (Option Refusal)
writer_checks f settings room = writer_checks_under (law_out f.law) (allows f.law) f settings room

abbrev pub write_refusal : Fields → List ℕ → ℕ → Option Refusal
write_refusal f settings room = write_refusal_under (law_out f.law) (allows f.law) f settings room

unfoldable pub write_of : Fields → List ℕ → ℕ → Reply
write_of f settings room = or_answer (write_refusal f settings room) (file_length f.scans ∷ [])

-- "replaces exactly the first 1,024 or 1,536 bytes of a lent buffer"; "the writer writes only QPL2"; "A refused write changes no byte."
abbrev pub file_after : Option Refusal → Fields → List ℕ → List ℕ → List ℕ
file_after none f settings file = file_of qpl2 f settings ++ drop (file_length f.scans) file
file_after (some r) f settings file = file

-- the number and values of the writer's answer: the length of the file
abbrev pub write_reply : Result ℕ Refusal → Reply
write_reply (Ok n) = answered (n ∷ [])
write_reply (Err r) = refused r
