-- What a worker leaves when it ends. Ours, of no standard.
use Rattle.std.specs.Prelude.{◌≡◌, ℕ, true, List, ◌++◌}
use Rattle.crossbeam_channel.specs.Claims.{Pass, view}
use Rattle.cell_table.specs.Site.{SiteView}
use Rattle.radio_desk.specs.Receipts.{IsRising, receipted}
use Rattle.exchange.specs.declared.Inbound.{Inbound}
use Rattle.ho_procedure.specs.Sent.{Sent}
use Rattle.worker_inbox.specs.declared.rule.Log.{Log}
use Rattle.call_worker.specs.declared.letter.Letter.{Letter}
use Rattle.call_worker.specs.declared.worker.Finished.{Finished}
use Rattle.call_worker.specs.Turns.{IsWork, inputs_of, inputs_of_turns}

-- It took its letters in their order, and kept the first inputs among them. Its turns make its receipts, and its links passed
-- on their messages.
pub record Finishes {L A : Type 0} (passed : L → List Sent) (refused : L → ℕ) (is_seat : Pass (Letter A) (Log (Letter A)) → Type 0) (site : SiteView) (start : L) (r : Finished L A) : Type 0 where
  pub seated : is_seat r.pass
  pub takes : (view r.pass).takes ≡ true
  pub in_order : (rest : List (Inbound A)) × (inputs_of (view r.pass).taken ≡ inputs_of_turns r.taken.items ++ rest)
  pub work : IsWork site (passed start) r.taken.items (receipted r.receipts.items) (passed r.links) (refused r.links)
  pub rising : IsRising r.receipts.items
