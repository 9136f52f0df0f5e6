-- The reporting machine's states and events.
use Rattle.std.specs.Prelude.{cond}
use Rattle.protocol.specs.Receiving as far
use Rattle.rlc_rx.specs.declared.reporting.Event.{Event}
use Rattle.rlc_rx.specs.declared.reporting.Event.TheVariants.{Trigger, Grant, Timer}
use Rattle.rlc_rx.specs.declared.reporting.Reporting.{Reporting}
use Rattle.rlc_rx.specs.declared.reporting.Reporting.TheVariants.{Quiet, Wanted, Barred, BarredWanted}

abbrev pub reporting_of : Reporting → far.Reporting
reporting_of Quiet = far.quiet
reporting_of Wanted = far.wanted
reporting_of Barred = far.barred
reporting_of BarredWanted = far.barred_wanted

-- a grant that writes a report bars the next one
abbrev pub event_taken : Event → far.Reporting → far.Reporting
event_taken Trigger r = far.triggered r
event_taken Grant r = cond (far.reports r) far.barred r
event_taken Timer r = far.unbarred r
