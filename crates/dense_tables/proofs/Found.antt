-- Which channels have a place at a site: its traffic channels, each another.
use Rattle.std.proofs.Common.{◌≡◌, ◌<◌, ◌≤◌, ℕ, true, false, List, length, get_or, Option, Some, None, IfSome, is_some, refl, sym, ap, ◌∙◌, arith}
use Rattle.std.proofs.lemmas.List.Elements.{All-get_or, filter_passes}
use Rattle.std.proofs.lemmas.List.Quantifiers.{position-Some}
use Rattle.std.proofs.lemmas.List.Sums.{length-filter, count_by-le-length}
use Rattle.channel_fsm.specs.declared.ChanId.{ChanId}
use Rattle.channel_fsm.specs.Keys.{same_chan}
use Rattle.cell_table.specs.Site.{SiteView, IsSite, is_traffic, all_channels, channels, index_of}
use Rattle.cell_table.proofs.Counted.{index_is, no_index}
use Rattle.dense_tables.specs.Channels.{place_at, ArePlaces}
use Rattle.dense_tables.proofs.KeyFacts.{one_chan}

long : length all_channels ≡ 6144
unfolding all_channels
long = refl

pub few_channels : (site : SiteView) → length (channels site) ≤ 6144
few_channels site = omega (arith, length-filter (is_traffic site) all_channels, count_by-le-length (is_traffic site) all_channels, long)

-- what has a place is a traffic channel, and the place is one of the list
pub placed : (site : SiteView) (x : ChanId) (place : ℕ) → index_of site x ≡ Some place → (place < length (channels site)) × (is_traffic site x ≡ true)
placed site x place at =
    let found = position-Some (same_chan x) (channels site) place x at in
    let here : x ≡ get_or (channels site) place x = one_chan x _ found.1 in
    (found.0, ap (is_traffic site) here ∙ All-get_or (λ y. is_traffic site y ≡ true) (channels site) place x found.0 (filter_passes (is_traffic site) all_channels))

-- a place fits two octets
pub short_places : (site : SiteView) (o : Option ℕ) (x : ChanId) → o ≡ index_of site x → IfSome o (λ place. place ≤ 65535)
short_places site None x e = tt
short_places site (Some place) x e = omega (arith, (placed site x place (sym e)).0, few_channels site)

-- places that were noted are those of the list
pub places_within : (site : SiteView) (places : List (Option ℕ)) (n : ℕ) → ArePlaces site places → n ≡ length (channels site) → (x : ChanId) → IfSome (place_at places x) (λ place. place < n)
places_within site places n are long x = by (place_at places x) refl
  where
    by : (o : Option ℕ) → place_at places x ≡ o → IfSome o (λ place. place < n)
    by None e = tt
    by (Some place) e = omega (arith, (placed site x place (sym (are x) ∙ e)).0, long)

-- a traffic channel has one
pub has_place : (site : SiteView) → IsSite site → (x : ChanId) → is_traffic site x ≡ true → is_some (index_of site x) ≡ true
has_place site is x traffic = ap is_some (index_is site is x traffic)

pub traffic_told : (site : SiteView) → IsSite site → (x : ChanId) → is_some (index_of site x) ≡ is_traffic site x
traffic_told site is x =
    elim (is_traffic site x) as (λ b. is_traffic site x ≡ b → is_some (index_of site x) ≡ b) [
      | true ↦ λ named. has_place site is x named
      | false ↦ λ none. ap is_some (no_index site x none)
    ] refl

-- channels at one place are one
pub one_place : (site : SiteView) (x y : ChanId) (place : ℕ) → index_of site x ≡ Some place → index_of site y ≡ Some place → x ≡ y
one_place site x y place here there =
    one_chan x _ (position-Some (same_chan x) (channels site) place x here).1 ∙ sym (one_chan y _ (position-Some (same_chan y) (channels site) place x there).1)
