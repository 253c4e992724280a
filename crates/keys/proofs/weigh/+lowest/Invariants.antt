-- `keys::weigh::lowest` calls itself on the remainder, which is below `n`.
use Rattle.keys.proofs.weigh.+lowest.Given as goal

abbrev pub decreases-lowest : goal.decreases-lowest
decreases-lowest l = l.at.n
