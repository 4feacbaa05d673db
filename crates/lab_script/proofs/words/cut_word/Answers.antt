use Rattle.std.proofs.Common.{lit<, subst, ◌≡◌, ◌<◌, length, MatchOption, IfSome, option_map}
use Rattle.std.proofs.lemmas.Str.Pattern.{split_once_first}
use Rattle.encoded_messages.proofs.WordLemmas.{cut_less}
use Rattle.lab_script.specs.Words.{first_word, behind_word}
use Rattle.lab_script.proofs.WordLemmas.{Cut, cut_words, cut_first, cut_rest}
use Rattle.lab_script.proofs.words.cut_word.Goals as goal

pub returns-in-Some : goal.returns-in-Some
returns-in-Some c =
    let cut = split_once_first 32 c.args.text.now c.split_once.result c.split_once.ensures.cases (lit< tt) in
    record {
      words = subst (Cut c.args.text.now) c.in-Some.is (cut_words c.args.text.now c.split_once.result cut);
      first = subst (λ r. MatchOption r (c.args.text.now ≡ first_word c.args.text.now) (λ x. x.0.now ≡ first_word c.args.text.now)) c.in-Some.is (cut_first c.args.text.now c.split_once.result cut);
      rest = subst (λ r. option_map (λ x. x.1.now) r ≡ behind_word c.args.text.now) c.in-Some.is (cut_rest c.args.text.now c.split_once.result cut);
      less = subst (λ r. IfSome r (λ x. length x.1.now < length c.args.text.now)) c.in-Some.is (cut_less 32 c.args.text.now c.split_once.result cut);
    }

pub returns-in-None : goal.returns-in-None
returns-in-None c =
    let cut = split_once_first 32 c.args.text.now c.split_once.result c.split_once.ensures.cases (lit< tt) in
    record {
      words = subst (Cut c.args.text.now) c.in-None.is (cut_words c.args.text.now c.split_once.result cut);
      first = subst (λ r. MatchOption r (c.args.text.now ≡ first_word c.args.text.now) (λ x. x.0.now ≡ first_word c.args.text.now)) c.in-None.is (cut_first c.args.text.now c.split_once.result cut);
      rest = subst (λ r. option_map (λ x. x.1.now) r ≡ behind_word c.args.text.now) c.in-None.is (cut_rest c.args.text.now c.split_once.result cut);
      less = tt;
    }
