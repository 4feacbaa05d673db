use Rattle.std.proofs.Common.{sym, ◌∙◌}
use Rattle.radio_book.proofs.records.Records.clear.Goals as goal

pub release_serving-requires : goal.release_serving-requires
release_serving-requires g c x serves =
    c.requires.serving_is_owned c.args.call _ x (sym c.record.ensures ∙ c.in-Some.is) serves
