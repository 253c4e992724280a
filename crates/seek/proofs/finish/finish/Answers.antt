-- `seek::finish::finish` meets its contract: the settings of an allowed sequence are below Q, so the choices can be followed.
use native.Mathlib.Omega.{arith}
use Rattle.tables.specs.Tables.{series}
use Rattle.checks.specs.Given.{table_in}
use Rattle.checks.proofs.GivenLaws.{fit_in}
use Rattle.tables.proofs.SeriesLaws.{kept_below}
use Rattle.trellis.specs.Choices.{chosen}
use Rattle.seek.proofs.finish.finish.Goals as goal

pub close-requires : goal.close-requires
close-requires c =
    let t = c.args.t.now in
    let f = fit_in t c.requires.room.0 in record {
      scans_le_most_scans = (f.scans, (f.settings, (f.room, c.requires.room.1)));
      i_bound = λ e i h. kept_below (series (table_in t)) 0 0 (chosen t.settings t.scans c.args.scratch.now) c.requires.fact.1 i (omega (arith, c.requires.fact.0));
    }

pub returns : goal.returns
returns c = record { totals = c.total_up-totals.ensures; handed = c.close.ensures.handed; wiped = c.close.ensures.wiped }
