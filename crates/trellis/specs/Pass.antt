-- What a pass is asked, and what it leaves. Assumes nothing.
use Rattle.std.specs.Prelude.{◌≡◌, Bool, true, false, List, ℕ, ◌+◌, ◌*◌, ◌≤◌, length, get_or}
use Rattle.criteria.specs.Choice.{Problem, NoneAllowed}
use Rattle.tables.specs.Series.{Series, problem}
use Rattle.tables.specs.Tables.{Table, series, scratch_need}
use Rattle.keys.specs.OneKey.{Least}
use Rattle.least.specs.declared.Rule.{Rule}
use Rattle.trellis.specs.Choices.{chosen}

-- a series' steps that stay under a ceiling
abbrev pub under : ℕ → Series → Series
under X S = record {
  scans = S.scans;
  settings = S.settings;
  may = λ i p q. S.may i p q × (S.height i p q ≤ X);
  rate = S.rate;
  distortion = S.distortion;
  height = S.height;
}

-- the sequences that a pass looks at
abbrev pub pass_problem : ℕ → Table → Problem
pass_problem X t = problem (under X (series t))

-- the one number that a pass compares
abbrev pub weighed : Problem → Rule → List ℕ → ℕ
weighed P rule t = rule.a * P.distortion t + rule.b * P.rate t

-- Whether there is a sequence; if so, the choices lead along the least by weight, and of equals the first. Beyond the call's scratch every
-- byte is as it was.
pub record PassOf (P : Problem) (N Q : ℕ) (rule : Rule) (before after : List ℕ) (found : Bool) : Type 0 where
  pub none : found ≡ false → NoneAllowed P
  pub some : found ≡ true → Least P.allowed (weighed P rule) (chosen Q N after)
  pub long : length after ≡ length before
  pub rest : (i : ℕ) → scratch_need N Q ≤ i → get_or after i 0 ≡ get_or before i 0
