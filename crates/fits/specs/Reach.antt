-- What the parts of the call leave each other: for each setting the least rate with which a beginning ends in it. No promise cites it.
-- Assumes nothing.
use Rattle.std.specs.Prelude.{◌≡◌, List, ℕ, ◌+◌, ◌-◌, ◌*◌, ◌≤◌, ◌<◌, min, length, get_or}
use Rattle.tables.specs.Limits.{over_total}
use Rattle.tables.specs.Series.{Series, Kept, total, last_of}

-- an allowed beginning of k scans that ends in setting q. (One of no scans ends in 0, which stands before scan 0 in the place of none.)
pub record EndsIn (S : Series) (k q : ℕ) (s : List ℕ) : Type 0 where
  pub long : length s ≡ k
  pub kept : Kept S 0 0 s
  pub last : last_of 0 s ≡ q

-- .. of this rate
pub record Reaches (S : Series) (k q rate : ℕ) : Type 0 where
  pub beginning : List ℕ
  pub ends : EndsIn S k q beginning
  pub is : total S.rate 0 0 beginning ≡ rate

-- of each setting below Q the rate of an allowed beginning of k scans that ends in it, or over-total; and the least such rate, where that is
-- within the limit
pub record Reached (S : Series) (k limit : ℕ) (least : List ℕ) : Type 0 where
  pub capped : (q : ℕ) → q < S.settings → get_or least q 0 ≤ over_total
  pub lowest : (q : ℕ) → q < S.settings → (s : List ℕ) → EndsIn S k q s → total S.rate 0 0 s ≤ limit → get_or least q 0 ≤ total S.rate 0 0 s
  pub found : (q : ℕ) → q < S.settings → get_or least q 0 < over_total → Reaches S k q (get_or least q 0)

-- what a setting comes to with what stood before it: its rate is capped, so that the forbidden one comes to no beginning's total
abbrev pub comes_to : (before rate : ℕ) → ℕ
comes_to before rate = before + min rate over_total

-- the settings from `from` up to `to` come to what they come to after one setting, where that is less; their cells stand from `at` on
pub record RowTaken (rates : List ℕ) (at before from to : ℕ) (least least' : List ℕ) : Type 0 where
  pub inside : (q : ℕ) → from ≤ q → q < to → get_or least' q 0 ≡ min (get_or least q 0) (comes_to before (get_or rates (at + q) 0))
  pub outside : (q : ℕ) → (from ≤ q → q < to → ⊥) → get_or least' q 0 ≡ get_or least q 0
  pub long : length least' ≡ length least

-- the first m rows of a scan are taken: each setting has the least of what it comes to after those that it may follow
pub record ScanTaken (follows : ℕ → ℕ → Type 0) (rates : List ℕ) (Q at m : ℕ) (least least' : List ℕ) : Type 0 where
  pub capped : (q : ℕ) → q < Q → get_or least' q 0 ≤ over_total
  pub lowest : (p q : ℕ) → p < m → q < Q → follows p q → get_or least' q 0 ≤ comes_to (get_or least p 0) (get_or rates (at + p * Q + q) 0)
  pub found : (q : ℕ) → q < Q → get_or least' q 0 < over_total →
      (p : ℕ) × (p < m) × follows p q × (get_or least' q 0 ≡ comes_to (get_or least p 0) (get_or rates (at + p * Q + q) 0))
  pub long : length least' ≡ 16

-- of the first m totals, how many there are up to the last that is at most the limit: none where there is none
pub record LastWithin (m limit : ℕ) (least : List ℕ) (count : ℕ) : Type 0 where
  pub inside : count ≤ m
  pub last : 1 ≤ count → get_or least (count - 1) 0 ≤ limit
  pub past : (q : ℕ) → count ≤ q → q < m → limit < get_or least q 0
