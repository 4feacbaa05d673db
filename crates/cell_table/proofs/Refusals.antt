-- What a document says is a site or the first check that it fails: no check answers that memory was refused.
use Rattle.std.proofs.Common.{ℕ, Bool, true, false, ◌==◌, List, Option, Some, None, option_map, Ok, Err, length}
use Rattle.std.specs.List.{list_any, list_all}
use Rattle.toml.specs.Data.{Data, get, as_array}
use Rattle.cell_table.specs.declared.fault.Key.{Key}
use Rattle.cell_table.specs.declared.fault.Key.TheVariants as key
use Rattle.cell_table.specs.declared.fault.SiteFault.TheVariants.{Missing, Range}
use Rattle.cell_table.specs.declared.ranges.Allowed.{Allowed}
use Rattle.cell_table.specs.Limits.{most_neighbours}
use Rattle.cell_table.specs.Ranges.{up_to, allowed, arfcn_range, tch_range}
use Rattle.cell_table.specs.Site.{SiteView}
use Rattle.cell_table.specs.Rules.{broken_rule, first_broken, unbroken, checked}
use Rattle.cell_table.specs.SiteFile.{◌>>=◌, is_allowed, allowed_number, number_of, number_within, number_at, value_at, array_of, entries_of, counted, all_tables, tables_of, is_table, key_name, handover_of, handover_at, identity_of, ba_of, tch_of, half_slot, halves_by, trx_of, all_trx_of, cell_of, cells_of, outside_of, site_of}
use Rattle.cell_table.proofs.Chains.{IsJudged, judged-ok, judged-bind, judged-ok_or, judged-if, judged-each}

judged_value_at : (k : Key) (d : Data) → IsJudged (value_at k d)
judged_value_at k d = judged-ok_or (get (key_name k) d) (Missing k) (λ e. cc)

judged_number_of : (k : Key) (range : Allowed) (d : Data) → IsJudged (number_of k range d)
judged_number_of k range d = judged-ok_or (allowed_number range d) (Range k) (λ e. cc)

judged_number_within : (k : Key) (range : Allowed) (d : Data) → IsJudged (number_within k range d)
unfolding number_within
judged_number_within k range d = judged-bind (value_at k d) (λ v. number_of k range v) (judged_value_at k d) (λ v. judged_number_of k range v)

judged_number_at : (k : Key) (d : Data) → IsJudged (number_at k d)
judged_number_at k d = judged_number_within k (allowed k) d

judged_array_of : (k : Key) (d : Data) → IsJudged (array_of k d)
judged_array_of k d = judged-ok_or (option_map entries_of (as_array d)) (Range k) (λ e. cc)

judged_range : {A : Type 0} (k : Key) → IsJudged {A = A} (Err (Range k))
judged_range k = record { never = λ e. cc }

judged_counted : (k : Key) (count : Allowed) (ds : List Data) → IsJudged (counted k count ds)
judged_counted k count ds = judged-if (is_allowed count (length ds)) (Ok ds) (Err (Range k)) (judged-ok ds) (judged_range k)

judged_tables : (k : Key) (ds : List Data) → IsJudged (all_tables k ds)
judged_tables k ds = judged-if (list_all is_table ds) (Ok ds) (Err (Range k)) (judged-ok ds) (judged_range k)

judged_tables_of : (k : Key) (d : Data) → IsJudged (tables_of k d)
unfolding tables_of
judged_tables_of k d =
    judged-bind (array_of k d) (λ ds. counted k (allowed k) ds >>= (λ some. all_tables k some)) (judged_array_of k d)
    (λ ds. judged-bind (counted k (allowed k) ds) (λ some. all_tables k some) (judged_counted k (allowed k) ds) (λ some. judged_tables k some))

judged_handover_of : (d : Data) → IsJudged (handover_of d)
unfolding handover_of
judged_handover_of d =
    judged-bind _ _ (judged_number_at key.Window d) (λ window. judged-bind _ _ (judged_number_at key.Margin d)
    (λ margin. judged-bind _ _ (judged_number_at key.Minimum d) (λ minimum. judged-ok _)))

judged_handover_at : (d : Data) → IsJudged (handover_at d)
unfolding handover_at
judged_handover_at d = judged-bind _ _ (judged_value_at key.Handover d) (λ v. judged-if (is_table v) _ _ (judged_handover_of v) (judged_range key.Handover))

judged_identity_of : (d : Data) → IsJudged (identity_of d)
unfolding identity_of
judged_identity_of d =
    judged-bind _ _ (judged_number_at key.Lac d) (λ lac. judged-bind _ _ (judged_number_at key.Ci d)
    (λ ci. judged-bind _ _ (judged_number_at key.Bcch d) (λ bcch. judged-bind _ _ (judged_number_at key.Ncc d)
    (λ ncc. judged-bind _ _ (judged_number_at key.Bcc d) (λ bcc. judged-ok _)))))

judged_ba_of : (d : Data) → IsJudged (ba_of d)
unfolding ba_of
judged_ba_of d =
    judged-bind _ _ (judged_value_at key.Ba d) (λ v. judged-bind _ _ (judged_array_of key.Ba v) (λ ds. judged-bind _ _ (judged_counted key.Ba (up_to most_neighbours) ds)
    (λ carriers. judged-each (λ place. number_of key.Ba (allowed key.Ba)) (λ n d'. judged_number_of key.Ba (allowed key.Ba) d') 0 carriers)))

judged_tch_of : (first : Bool) (d : Data) → IsJudged (tch_of first d)
unfolding tch_of
judged_tch_of first d =
    judged-bind _ _ (judged_value_at key.Tch d) (λ v. judged-bind _ _ (judged_array_of key.Tch v)
    (λ ds. judged-each (λ place. number_of key.Tch (tch_range first)) (λ n d'. judged_number_of key.Tch (tch_range first) d') 0 ds))

judged_half_slot : (test : ℕ → Bool) (d : Data) → IsJudged (half_slot test d)
unfolding half_slot
judged_half_slot test d =
    judged-bind _ _ (judged_number_of key.Half (allowed key.Half) d) (λ tn. judged-if (test tn) _ _ (judged-ok _) (judged_range key.Half))

judged_halves : (test : ℕ → Bool) (o : Option Data) → IsJudged (halves_by test o)
unfolding halves_by
judged_halves test None = judged-ok _
judged_halves test (Some v) =
    judged-bind _ _ (judged_array_of key.Half v) (λ ds. judged-each (λ place. half_slot test) (λ n d'. judged_half_slot test d') 0 ds)

judged_trx_of : (bcch : ℕ) (first : Bool) (d : Data) → IsJudged (trx_of bcch first d)
unfolding trx_of
judged_trx_of bcch first d =
    judged-bind _ _ (judged_number_within key.Arfcn (arfcn_range bcch first) d) (λ arfcn. judged-bind _ _ (judged_tch_of first d)
    (λ tch. judged-bind _ _ (judged_halves (λ tn. list_any (λ n. n == tn) tch) (get (key_name key.Half) d)) (λ half. judged-ok _)))

judged_all_trx_of : (bcch : ℕ) (d : Data) → IsJudged (all_trx_of bcch d)
unfolding all_trx_of
judged_all_trx_of bcch d =
    judged-bind _ _ (judged_value_at key.Trx d) (λ v. judged-bind _ _ (judged_tables_of key.Trx v)
    (λ ds. judged-each (λ place. trx_of bcch (place == 0)) (λ n d'. judged_trx_of bcch (n == 0) d') 0 ds))

judged_cell_of : (d : Data) → IsJudged (cell_of d)
unfolding cell_of
judged_cell_of d =
    judged-bind _ _ (judged_identity_of d) (λ identity. judged-bind _ _ (judged_number_at key.Power d) (λ power. judged-bind _ _ (judged_ba_of d)
    (λ ba. judged-bind _ _ (judged_all_trx_of identity.bcch d) (λ trx. judged-ok _))))

judged_cells_of : (d : Data) → IsJudged (cells_of d)
unfolding cells_of
judged_cells_of d =
    judged-bind _ _ (judged_value_at key.Cell d) (λ v. judged-bind _ _ (judged_tables_of key.Cell v)
    (λ ds. judged-each (λ place. cell_of) (λ n d'. judged_cell_of d') 0 ds))

judged_outside_of : (o : Option Data) → IsJudged (outside_of o)
unfolding outside_of
judged_outside_of None = judged-ok _
judged_outside_of (Some v) =
    judged-bind _ _ (judged_tables_of key.Outside v) (λ ds. judged-each (λ place. identity_of) (λ n d'. judged_identity_of d') 0 ds)

judged_broken : (b1 b2 b3 b4 b5 : Bool) (silent : Option ℕ) (site : SiteView) → IsJudged (unbroken site (first_broken b1 b2 b3 b4 b5 silent))
judged_broken true b2 b3 b4 b5 silent site = record { never = λ e. cc }
judged_broken false true b3 b4 b5 silent site = record { never = λ e. cc }
judged_broken false false true b4 b5 silent site = record { never = λ e. cc }
judged_broken false false false true b5 silent site = record { never = λ e. cc }
judged_broken false false false false true silent site = record { never = λ e. cc }
judged_broken false false false false false (Some cell) site = record { never = λ e. cc }
judged_broken false false false false false None site = judged-ok _

judged_checked : (site : SiteView) → IsJudged (checked site)
unfolding broken_rule
judged_checked site = judged_broken _ _ _ _ _ _ site

pub judged_site_of : (d : Data) → IsJudged (site_of d)
unfolding site_of
judged_site_of d =
    judged-bind _ _ (judged_handover_at d) (λ handover. judged-bind _ _ (judged_cells_of d) (λ cells. judged-bind _ _ (judged_outside_of _) (λ outside. judged_checked _)))
