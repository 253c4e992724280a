-- Document 02, [13]: the plans that lead to the average plan, and their count. Assumes nothing.
use Rattle.std.specs.Prelude.{◌≡◌, List, ℕ, suc, ◌+◌, ◌≤◌, ◌<◌}
use Rattle.criteria.specs.Order.{Best}
use Rattle.criteria.specs.Choice.{Problem, Multiplier, NoneAllowed, cost}

module _ (P : Problem) where
  -- "the least-rate plan (of those, least distortion)", and of equals the first
  abbrev pub Thriftiest : List ℕ → Type 0
  Thriftiest s = Best P.allowed P.rate P.distortion s

  -- "each next plan is taken at the slope between the last plan that fits and the last that doesn't": t is the plan at n/d, where n is
  -- how much distortion falls from lo to hi, and d how much rate rises
  pub record Slope (lo hi : List ℕ) (n d : ℕ) (t : List ℕ) : Type 0 where
    pub fall : P.distortion lo ≡ P.distortion hi + n
    pub rise : P.rate hi ≡ P.rate lo + d
    pub plan : Multiplier P n d t

  -- ".. and replaces the one on its side, until its cost equals theirs": k more plans, from lo, the last that fits, and hi, the last
  -- that doesn't; the last of them is s, taken at n/d
  pub data Slopes (B n d : ℕ) (s : List ℕ) : List ℕ → List ℕ → ℕ → Type 0 where
    last : {lo hi : List ℕ} → Slope lo hi n d s → cost P n d s ≡ cost P n d lo → Slopes B n d s lo hi 1
    fitting : {lo hi t : List ℕ} {m e k : ℕ} → Slope lo hi m e t → cost P m e t < cost P m e lo → P.rate t ≤ B →
        Slopes B n d s t hi k → Slopes B n d s lo hi (suc k)
    over : {lo hi t : List ℕ} {m e k : ℕ} → Slope lo hi m e t → cost P m e t < cost P m e lo → B < P.rate t →
        Slopes B n d s lo t k → Slopes B n d s lo hi (suc k)

  -- "The definition counts plans: the least-rate plan is one; if its rate fits, the zero-multiplier plan is the second; if that is over
  -- B, each next plan ..; where no allowed sequence exists the count is 1"
  pub data Passes (B : ℕ) : ℕ → Type 0 where
    none_allowed : NoneAllowed P → Passes B 1
    none_fits : {lo : List ℕ} → Thriftiest lo → B < P.rate lo → Passes B 1
    zero_fits : {lo z : List ℕ} → Thriftiest lo → P.rate lo ≤ B → Multiplier P 0 1 z → P.rate z ≤ B → Passes B 2
    by_slopes : {lo z s : List ℕ} {n d k : ℕ} → Thriftiest lo → P.rate lo ≤ B → Multiplier P 0 1 z → B < P.rate z →
        Slopes B n d s lo z k → Passes B (2 + k)
