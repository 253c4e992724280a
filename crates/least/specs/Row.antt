-- A row of candidates: what a choice costs, and the least of a run. Assumes nothing.
use Rattle.std.specs.Prelude.{◌≡◌, cond, List, ℕ, ◌+◌, ◌*◌, ◌≤◌, ◌<◌, eqb, ltb, get_or}
use Rattle.tables.specs.Limits.{most_cell, forbidden}
use Rattle.tables.specs.Legal.{LegalRate}
use Rattle.least.specs.declared.Rule.{Rule}
use Rattle.keys.specs.OneKey.{weight_bound}

-- 2 ^ 62, which no sequence costs
abbrev pub no_way : ℕ
no_way = 4611686018427387904

-- what a choice costs, by the rule's weights, where its cells are closed: of its rate, and of the distortion that counts
unfoldable pub price_of : Rule → (rate counted : ℕ) → ℕ
price_of rule rate counted = cond (eqb rate forbidden) no_way (rule.a * counted + rule.b * rate)

-- .. and with it what lies ahead of setting q
abbrev pub candidate : Rule → (rates distortions keys : List ℕ) → ℕ → ℕ
candidate rule rates distortions keys q = price_of rule (get_or rates q 0) (get_or distortions q 0) + get_or keys q 0

-- the first k rates of a row are legal, the distortions that count beside them are small, and what lies ahead of each setting leaves room
abbrev pub Ready : ℕ → (rates distortions keys : List ℕ) → Type 0
Ready k rates distortions keys =
    (q : ℕ) → q < k → LegalRate (get_or rates q 0) × (get_or distortions q 0 ≤ most_cell) × (get_or keys q 0 ≤ no_way)

-- the later of two takes the place of the earlier where it is less
abbrev pub Joins : (key first key' first' key'' first'' : ℕ) → Type 0
Joins key first key' first' key'' first'' = (key'' ≡ cond (ltb key' key) key' key) × (first'' ≡ cond (ltb key' key) first' first)

-- key is the least of x from lo up to hi, and `first` the first that attains it
pub record RunOf (x : ℕ → ℕ) (lo hi key first : ℕ) : Type 0 where
  pub from : lo ≤ first
  pub to : first < hi
  pub is : key ≡ x first
  pub least : (q : ℕ) → lo ≤ q → q < hi → key ≤ x q
  pub before : (q : ℕ) → lo ≤ q → q < first → key < x q

-- the same of candidates of which those from no_way on do not count: key is no_way where there is none
pub record BestOf (x : ℕ → ℕ) (lo hi key first : ℕ) : Type 0 where
  pub capped : key ≤ no_way
  pub inside : first ≤ hi
  pub least : (q : ℕ) → lo ≤ q → q < hi → key ≤ x q
  pub found : key < no_way → (lo ≤ first) × (first < hi) × (key ≡ x first)
  pub before : key < no_way → (q : ℕ) → lo ≤ q → q < first → key < x q

-- weights of 31 bits, which every rule has
abbrev pub Light : Rule → Type 0
Light rule = (rule.a < weight_bound) × (rule.b < weight_bound)
