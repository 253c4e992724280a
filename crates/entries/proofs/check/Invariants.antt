-- `entries::check` meets its contract: entry after entry.
use mathlib.Core.Path.{◌≡◌}
use mathlib.Core.Bool.{false}
use Prim.Native.Nat.{ℕ, ◌<◌, ◌-◌}
use Rattle.tables.specs.Law.{allows}
use Rattle.entries.specs.Entries.{entry_broken}
use Rattle.entries.proofs.check.Given as goal

-- what was read last is the entry before, and no entry so far breaks its rule
abbrev pub invariant-loop-j : goal.invariant-loop-j
invariant-loop-j g l = (0 < l.j → l.before ≡ g.e (l.j - 1)) × ((i : ℕ) → i < l.j → entry_broken l.f.scans l.f.settings (allows l.f.law) g.e i ≡ false)
