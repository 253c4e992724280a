-- An answer of the reader or of the writer is settled by its number and values. Assumes nothing.
use mathlib.Core.Path.{◌≡◌, sym, ap}
use mathlib.Core.List.{List}
use Prim.Native.Nat.{ℕ}
use lib.ListN.{get_or}
use Rattle.tables.specs.Refusals.{Reply}
use Rattle.tables.proofs.RefusalLaws.{refused_unique, answered_or_refused}
use Rattle.planfile.specs.declared.read.PlanRead.{PlanRead}
use Rattle.std.specs.Prelude.{Result, Ok, Err}
use Rattle.tables.specs.declared.refusal.Refusal.{Refusal}
use Rattle.planfile.specs.Reading.{read_reply}
use Rattle.planfile.specs.Writing.{write_reply}

-- what was read, from its values
unfoldable read_from : List ℕ → PlanRead
read_from v = record {
  fields = record {
    scans = get_or v 0 0;
    settings = get_or v 1 0;
    law = get_or v 2 0;
    kind = get_or v 3 0;
    budget = get_or v 4 0;
    n = get_or v 5 0;
    d = get_or v 6 0;
    rate = record { 0 = get_or v 7 0 };
    distortion = record { 0 = get_or v 8 0 };
    peak = get_or v 9 0;
    floor = record { 0 = get_or v 10 0 };
    weighted = get_or v 12 0;
  };
  version = get_or v 11 0;
}

-- The promises settle the answers: two with one number and the same values are the same.
pub read_unique : (a b : Result PlanRead Refusal) → read_reply a ≡ read_reply b → a ≡ b
unfolding read_from
read_unique (Ok f) (Ok g) e = ap (λ (x : Reply). Ok (read_from x.values)) e
read_unique (Ok f) (Err r) e = absurd (answered_or_refused r e)
read_unique (Err r) (Ok f) e = absurd (answered_or_refused r (sym e))
read_unique (Err r) (Err r') e = ap Err (refused_unique e)

pub write_unique : (a b : Result ℕ Refusal) → write_reply a ≡ write_reply b → a ≡ b
write_unique (Ok n) (Ok m) e = ap (λ (x : Reply). Ok (get_or x.values 0 0)) e
write_unique (Ok n) (Err r) e = absurd (answered_or_refused r e)
write_unique (Err r) (Ok n) e = absurd (answered_or_refused r (sym e))
write_unique (Err r) (Err r') e = ap Err (refused_unique e)
