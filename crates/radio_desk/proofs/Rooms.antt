-- A desk with one more entry.
use Rattle.std.proofs.Common.{◌≡◌, ℕ, ◌≤◌, List, [], ◌∷◌, ◌++◌}
use Rattle.radio_book.specs.declared.event.Event.{Event}
use Rattle.radio_book.specs.declared.event.Reply.{Reply}
use Rattle.radio_book.specs.State.{State}
use Rattle.radio_book.specs.Table.{step, reply_to}
use Rattle.radio_book.specs.Run.{Leads}
use Rattle.radio_book.specs.Owed.{owed}
use Rattle.radio_desk.specs.Desk.{IsInOrder}
use Rattle.radio_desk.proofs.Leading.{leads_more}

-- A desk is in order with one more entry, which has room beside all that is owed then.
pub in_order_more : (opening b b' : State) (items items' : List (Event × Reply)) (e : Event) (r : Reply) (room : ℕ) →
    Leads opening items b → r ≡ reply_to b e → b' ≡ step b e → items' ≡ items ++ (e, r) ∷ [] → owed b' ≤ room →
    IsInOrder (record { opening = opening; book = b'; history = items'; room = room })
in_order_more opening b b' items items' e r room legal answered is entered enough =
    record { legal = rw (entered, is) (leads_more opening items b e r legal answered); room = enough }
