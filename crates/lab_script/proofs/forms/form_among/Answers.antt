use Rattle.std.proofs.Common.{◌∙◌, bytes_eq, rules, tests}
use Rattle.std.proofs.lemmas.Iterator.{YieldsList-from_slice}
use Rattle.std.proofs.lemmas.Iterator.Search.{find_from_yields_List}
use Rattle.lab_script.specs.declared.forms.Form.{Form}
use Rattle.lab_script.specs.Forms.{keyword}
use Rattle.lab_script.proofs.forms.form_among.Goals as goal

pub returns : goal.returns
returns c = c.copied.ensures ∙ find_from_yields_List (λ (form : Form). bytes_eq c.args.keyword.now (keyword form)) _ _ c.find.result c.find.ensures.ran (YieldsList-from_slice c.args.forms.now cc) (λ x b q k. search (rules, tests))
