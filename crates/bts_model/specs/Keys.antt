-- When two channels of a world are one, in what order they stand, and how each is written as numbers. Ours, of no standard.
use Rattle.std.specs.Prelude.{ℕ, Bool, ◌==◌, ◌&&◌, refl}
use Rattle.std.specs.declared.cmp.Ordering.{Ordering}
use Rattle.std.specs.Ordering.{nat_cmp, ordering_then}
use Rattle.std.specs.Coded.{Coded, code_by, coded×, coded_ℕ}
use Rattle.channel_fsm.specs.Keys.{same_chan}
use Rattle.timeslots.specs.Parts.{sub_number}
use Rattle.bts_model.specs.declared.place.Place.{Place}
use Rattle.bts_model.specs.declared.place.Key.{Key}

abbrev pub is_same_place : Place → Place → Bool
is_same_place x y = (x.controller == y.controller) && same_chan x.channel y.channel

-- a channel as numbers: its controller, cell, TRX and timeslot, and the part of that
abbrev pub key_of : Place → Key
key_of x = record { controller = x.controller; cell = x.channel.cell; trx = x.channel.trx; tn = x.channel.tn; part = sub_number x.channel.sub }

-- they stand in the order of these
abbrev pub key_cmp : Key → Key → Ordering
key_cmp a b =
    ordering_then (nat_cmp a.controller b.controller)
    (ordering_then (nat_cmp a.cell b.cell)
    (ordering_then (nat_cmp a.trx b.trx) (ordering_then (nat_cmp a.tn b.tn) (nat_cmp a.part b.part))))

abbrev pub coded_key : Coded Key
coded_key =
    code_by (ℕ × (ℕ × (ℕ × (ℕ × ℕ)))) (coded× coded_ℕ (coded× coded_ℕ (coded× coded_ℕ (coded× coded_ℕ coded_ℕ))))
    (λ x. (x.controller, (x.cell, (x.trx, (x.tn, x.part)))))
    (λ p. record { controller = p.0; cell = p.1.0; trx = p.1.1.0; tn = p.1.1.1.0; part = p.1.1.1.1 }) (λ _. refl)
