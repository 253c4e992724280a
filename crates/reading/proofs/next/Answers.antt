-- `reading::next` meets its contract: refused before, a separator, any other byte.
use mathlib.Core.Path.{sym, ◌∙◌}
use mathlib.Core.List.{[], ◌∷◌}
use Rattle.reading.proofs.FeedLaws.{feeds_kept, feeds_grown}
use Rattle.reading.proofs.next.Goals as goal

pub returns-then-s-clause-feeds : goal.returns-then-s-clause-feeds
returns-then-s-clause-feeds c = feeds_kept (c.args.c ∷ []) c.if-s.true

pub returns-then-is_separator-clause-feeds : goal.returns-then-is_separator-clause-feeds
returns-then-is_separator-clause-feeds c =
    λ text f. c.closed.ensures.closes text c.args.c (sym c.is_separator.ensures ∙ c.if-is_separator.true) c.if-s.false f

pub returns-clause-feeds : goal.returns-clause-feeds
returns-clause-feeds c = feeds_grown c.args.c (sym c.is_separator.ensures ∙ c.if-is_separator.false) c.if-s.false c.grown.ensures
