-- The laws over whole runs of an end that was new: whatever comes to it, in whatever order, granted or refused.
use Rattle.std.specs.Prelude.{◌≡◌, ℕ, List, map, Some}
use Rattle.std.specs.List.{AllByRecursion}
use Rattle.frame.specs.declared.addresses.Address.{Address}
use Rattle.ends.specs.declared.roles.Role.{Role}
use Rattle.ends.specs.Places.{Suites, suite_at}
use Rattle.ends.specs.Calls.{Sending, Call}
use Rattle.ends.specs.Calls.Call.{Send}
use Rattle.ends.specs.Installs.{new, installed}
use Rattle.ends.specs.Sends.{destination_of, source_of}
use Rattle.ends.specs.Steps.{step, run, final}
use Rattle.laws.specs.Words.{Station, OfOctets, remaining, calls_of, Standing, calls_in, end_of, steps_under, sent_under, all_sent_under, counter_in, all_delivered_under, Differ, Rise, Coming, call_of, frame_steps, AsSent, Crossing}

-- Under one installation every frame that is sent has a counter, and no two frames have the same.
abbrev pub CountersOfFramesDiffer : Suites → Type 0
CountersOfFramesDiffer S =
    (role : Role) (own : Address) → Station own →
    (x : Standing S (new role own)) → AllByRecursion OfOctets (calls_in x) →
    let place = x.install.place in
    (counters : List ℕ) × (map (counter_in (suite_at S place)) (all_sent_under place (steps_under x)) ≡ map Some counters) × Differ counters

-- Under one installation the counter of each message that is delivered is above those of all delivered before it.
abbrev pub CountersOfDeliveriesRise : Suites → Type 0
CountersOfDeliveriesRise S =
    (role : Role) (own : Address) → Station own →
    (x : Standing S (new role own)) → AllByRecursion OfOctets (calls_in x) →
    Rise (all_delivered_under x.install.place (steps_under x))

-- Strike out every refused call, except those whose code failed: each call that remains is answered as before, leaves the
-- same in every memory and meets and leaves the same end, and in the end the same is held.
abbrev pub RefusedCallsLeaveNoTrace : Suites → Type 0
RefusedCallsLeaveNoTrace S =
    (role : Role) (own : Address) (calls : List Call) →
    let start = new role own in
    let remain = remaining (run S start calls) in
    (run S start (calls_of remain) ≡ remain) × (final S start (calls_of remain) ≡ final S start calls)

-- A message that is sent under an installation, and whose frames arrive unaltered and in turn at an end whose installation
-- faces it, in range, above the replay counter and undisturbed, is delivered exactly as it was sent: all frames but the
-- last are held, and the last is delivered under the facing place with its own counter, the send's destination, source and
-- length, and the octets that were sent. Only the suite under which it is sent has to be the same at both ends.
abbrev pub SentMessagesAreDelivered : Suites → Suites → Type 0
SentMessagesAreDelivered S T =
    (role role' : Role) (own own' : Address) → Station own → Station own' →
    (x : Standing S (new role own)) → AllByRecursion OfOctets (calls_in x) →
    (y : Standing T (new role' own')) → AllByRecursion OfOctets (calls_in y) →
    (s : Sending) (coming : List Coming) → OfOctets (Send s) → AllByRecursion OfOctets (map call_of coming) →
    Crossing S T role role' own own' (end_of x) x.install (end_of y) y.install s coming →
    let here = x.install.place in
    let there = y.install.place in
    let destination = destination_of role here s.request (installed x.install) in
    let source = source_of role own s.request in
    let frames = sent_under here (step S (end_of x) (Send s)) in
    let steps = run T (end_of y) (map call_of coming) in
    AsSent (suite_at T there) there destination source s.message 0 frames (frame_steps coming steps)
