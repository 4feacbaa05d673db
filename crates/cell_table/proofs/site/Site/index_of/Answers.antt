use Rattle.std.proofs.Common.{◌≡◌, ◌∙◌, ap, sym, true, false, Some, rules}
use Rattle.cell_table.specs.Site.{is_traffic, index_of}
use Rattle.cell_table.specs.Searches.{channels_before}
use Rattle.cell_table.proofs.Counted.{no_index, index_is}
use Rattle.cell_table.proofs.site.Site.index_of.Goals as goal

pub returns-then-not-is_traffic : goal.returns-then-not-is_traffic
returns-then-not-is_traffic g c =
    let none : is_traffic c.args.self.now c.args.chan ≡ false = search rules in
    record { value = sym (no_index c.args.self.now c.args.chan none) }

pub returns : goal.returns
returns g c =
    let site = c.self.inside.tables.value in
    let named : is_traffic c.args.self.now c.args.chan ≡ true = search rules in
    let traffic : is_traffic site c.args.chan ≡ true = ap (λ s. is_traffic s c.args.chan) c.self.view_is ∙ named in
    let told : c.channels_before.result ≡ channels_before site.cells c.args.chan = search rules in
    record { value = ap (λ n. Some n) told ∙ sym (index_is site c.self.invariant c.args.chan traffic) ∙ ap (λ s. index_of s c.args.chan) c.self.view_is }
