-- `session::eap_packet` meets its contract: each packet that is taken apart is the one that was read, and every other is malformed.
use Rattle.std.specs.Prelude.{Some}
use mathlib.Core.Path.{refl, sym, ap, ◌∙◌}
use Rattle.octets.specs.Part.{zeros}
use Rattle.eap.specs.Packet.{is_request}
use Rattle.record.specs.Line.{line_of}
use Rattle.rules.specs.Answer.{event_room}
use Rattle.rules.specs.Call.{eap}
use Rattle.rules.specs.Refusals.{is_some_request}
use Rattle.step.proofs.Shown.{late, passed_on}
use Rattle.session.proofs.Packets.{foreign, none_named, none_within, shown, unread}
use Rattle.session.proofs.eap_packet.Goals as goal

pub returns-in_err-found : goal.returns-in_err-found
unfolding event_room zeros
returns-in_err-found c =
    let is = passed_on _ c.from_residual.ensures in
    record { effect_is = rw (is, none_named c.args.packet.now) (rw is at (late (eap c.args.packet.now) (line_of c.args.line) c.from_residual.result c.from_residual.ensures c.in_err-found.ensures)); part_within = rw is (none_within _) }

pub returns-in_default : goal.returns-in_default
unfolding is_some_request
returns-in_default c = record { effect_is = rw (none_named c.args.packet.now) (unread _ c.in_ok-found.ensures _ c.read.ensures (rw c.in_default.is refl)); part_within = none_within _ }

pub returns-in-Start : goal.returns-in-Start
unfolding is_request
returns-in-Start c =
    let all = shown _ c.in_ok-found.ensures _ (sym (ap Some c.in-Start.is) ∙ c.in-Some.ensures) refl _ c.eap_start.ensures in
    record { effect_is = all.effect_is; part_within = all.part_within }

pub returns-in-NasRequest : goal.returns-in-NasRequest
unfolding is_request
returns-in-NasRequest c =
    let all = shown _ c.in_ok-found.ensures _ (sym (ap Some c.in-NasRequest.is) ∙ c.in-Some.ensures) refl _ c.eap_nas.ensures in
    record { effect_is = all.effect_is; part_within = all.part_within }

pub returns-in_default-read-3 : goal.returns-in_default-read-3
unfolding is_some_request
returns-in_default-read-3 c =
    record { effect_is = rw (none_named c.args.packet.now) (unread _ c.in_ok-found.ensures _ c.in-Some.ensures (foreign c.in-Some.read c.in_default-read.not-Start c.in_default-read-2.not-NasRequest c.in_default-read-3.not-Success)); part_within = none_within _ }

pub returns : goal.returns
unfolding is_request
returns c =
    let all = shown _ c.in_ok-found.ensures _ (sym (ap Some c.in-Success.is) ∙ c.in-Some.ensures) refl _ c.eap_success.ensures in
    record { effect_is = all.effect_is; part_within = all.part_within }
