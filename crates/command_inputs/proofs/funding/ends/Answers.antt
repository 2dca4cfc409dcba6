use Rattle.std.proofs.Common.{refl}
use Rattle.command_inputs.proofs.funding.ends.Goals as goal

pub open_report-requires : goal.open_report-requires
open_report-requires g c = c.requires.can.goes_on c.in-Unfinished.is

pub paid_texts-requires : goal.paid_texts-requires
paid_texts-requires g c = record {
  held = c.requires.held;
  funded = c.requires.can.selects c.in-Funded.funded c.in-Funded.is;
  makers = c.requires.can.makers c.in-Funded.funded c.in-Funded.is;
}

pub returns-in_ok-report-in-Unfinished : goal.returns-in_ok-report-in-Unfinished
returns-in_ok-report-in-Unfinished g c =
    let e = c.in_ok-report-in-Unfinished.ensures in
    (c.in-Unfinished.is, record { reports = e.text; told = e.means; plan_is = refl; job_is = refl })

pub returns-in_ok-texts-in-NoSelection : goal.returns-in_ok-texts-in-NoSelection
returns-in_ok-texts-in-NoSelection g c =
    let e = c.in_ok-texts-in-NoSelection.ensures in
    (c.in-NoSelection.is, record { reports = e.report; told = e.means; logs = e.log })

pub returns-in_ok-texts-in-Funded : goal.returns-in_ok-texts-in-Funded
returns-in_ok-texts-in-Funded g c =
    let e = c.in_ok-texts-in-Funded.ensures in
    (c.in-Funded.funded, c.in-Funded.is, record { psbt = e.fits; shows = e.shows; reports = e.report; logs = e.log })
