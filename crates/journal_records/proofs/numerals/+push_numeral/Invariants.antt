use Rattle.journal_records.proofs.numerals.+push_numeral.Given as goal

abbrev pub decreases-push_numeral : goal.decreases-push_numeral
decreases-push_numeral g l = l.width
