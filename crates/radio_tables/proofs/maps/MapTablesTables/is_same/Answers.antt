use Rattle.std.proofs.Common.{◌≡◌, rules}
use Rattle.std.proofs.lemmas.Bool.Decides.{Decides-at}
use Rattle.radio_tables.specs.State.{state_code}
use Rattle.radio_tables.specs.Same.{is_same, is_same-Decides}
use Rattle.radio_tables.proofs.maps.MapTablesTables.is_same.Goals as goal

pub returns : goal.returns
returns g c =
    let told : c.eq.result ≡ is_same state_code c.args.self.now c.args.other.now = search rules in
    record { same = Decides-at c.eq.result (is_same state_code c.args.self.now c.args.other.now) told (is_same-Decides state_code c.args.self.now c.args.other.now) }
