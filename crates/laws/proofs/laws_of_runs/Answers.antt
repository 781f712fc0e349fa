use Rattle.laws.proofs.Sending.{both_keep}
use Rattle.laws.proofs.Struck.{refused_calls_leave_no_trace}
use Rattle.laws.proofs.Installations.{counters_of_frames_differ, counters_of_deliveries_rise}
use Rattle.laws.proofs.Delivery.{sent_messages_are_delivered}
use Rattle.laws.proofs.laws_of_runs.Goals as goal

pub returns : goal.returns
returns g c =
    let keep = both_keep _ _ g.met.P.Suite.keeps g.met.G.Suite.keeps in
    record { counters_differ = counters_of_frames_differ _ keep; deliveries_rise = counters_of_deliveries_rise _ keep; refusals_leave_no_trace = refused_calls_leave_no_trace _; delivered_as_sent = λ T other. sent_messages_are_delivered _ T keep other; sent_to_here = λ T other. sent_messages_are_delivered T _ other keep }
