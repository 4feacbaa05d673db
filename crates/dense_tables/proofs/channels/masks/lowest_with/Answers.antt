use Rattle.std.proofs.Common.{get_or, sym, ap, ◌∙◌, arith}
use Rattle.std.proofs.lemmas.List.{get_or_read}
use Rattle.channel_fsm.specs.Masks.{has}
use Rattle.dense_tables.proofs.Masked.{first_with, none_with}
use Rattle.dense_tables.proofs.channels.masks.lowest_with.Goals as goal

pub returns-in-Some : goal.returns-in-Some
returns-in-Some g c =
    let masks = c.args.masks.now.items in
    let tn = c.in-Some.tn in
    let read = get_or_read masks _ _ (omega (arith, c.mask_place.ensures.within, c.requires.len)) c.index.ensures 0 in
    let at = c.mask_place.ensures.value in
    record {
      found = first_with masks c.args.cell c.args.trx c.args.sub tn c.requires.cell c.requires.trx c.in-Some.ensures.range
          (sym (ap (λ m. has m tn) read ∙ ap (λ k. has (get_or masks k 0) tn) at) ∙ c.in-Some.ensures.there)
          (λ n before. sym (ap (λ m. has m n) read ∙ ap (λ k. has (get_or masks k 0) n) at) ∙ c.in-Some.ensures.lowest n before);
      none = tt;
    }

pub returns-in-None : goal.returns-in-None
returns-in-None g c =
    let masks = c.args.masks.now.items in
    let read = get_or_read masks _ _ (omega (arith, c.mask_place.ensures.within, c.requires.len)) c.index.ensures 0 in
    let at = c.mask_place.ensures.value in
    record {
      found = tt;
      none = none_with masks c.args.cell c.args.trx c.args.sub (λ n. sym (ap (λ m. has m n) read ∙ ap (λ k. has (get_or masks k 0) n) at) ∙ c.in-None.ensures.empty n);
    }
