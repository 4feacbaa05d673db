-- Each message that the centre sends has a canonical text.
use Rattle.std.proofs.Common.{◌≡◌, ℕ, ◌<◌, ◌≤◌, List, [], length, length-append, refl, sym, subst, arith}
use Rattle.bssmap_messages.specs.declared.message.Bssmap.{Bssmap}
use Rattle.bssmap_messages.specs.declared.message.Bssmap.TheVariants.{HandoverCommand, HandoverRequiredReject, ClearCommand}
use Rattle.bssmap_messages.specs.Messages.{handover_request, layer_3_alone, cause_alone}
use Rattle.bssmap_messages.specs.Texts.{HasCanonical}
use Rattle.bssmap_messages.proofs.Written.{writable}
use Rattle.msc_model.specs.declared.route.Route.{Route}
use Rattle.msc_model.specs.Messages.{request}

pub clear_written : {A : Type 0} (cause : ℕ) → HasCanonical {A = A} (ClearCommand cause)
unfolding cause_alone
clear_written cause = writable (ClearCommand cause) tt (omega arith)

pub reject_written : {A : Type 0} (cause : ℕ) → HasCanonical {A = A} (HandoverRequiredReject cause)
unfolding cause_alone
reject_written cause = writable (HandoverRequiredReject cause) tt (omega arith)

pub command_written : {A : Type 0} (layer3 : List ℕ) → 0 < length layer3 → length layer3 ≤ 250 → HasCanonical {A = A} (HandoverCommand layer3)
unfolding layer_3_alone
command_written layer3 some short = let long = length-append layer3 [] in writable (HandoverCommand layer3) some (omega arith)

pub request_written : {A : Type 0} (r : Route) → HasCanonical {A = A} (request r)
unfolding handover_request
request_written r = writable (request r) (omega arith, omega arith, refl, refl) (omega arith)

pub written_as : {A : Type 0} (m : Bssmap A) (r : Route) → m ≡ request r → HasCanonical m
written_as m r is = subst HasCanonical (sym is) (request_written r)
