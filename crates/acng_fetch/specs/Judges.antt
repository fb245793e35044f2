-- What a verdict says of a head.
use Rattle.std.specs.Prelude.{◌≡◌, ℕ, true, List, Option, Some, IsSomeAnd, ⊤}
use Rattle.acng_base.specs.Heads.{Head}
use Rattle.acng_base.specs.Fields.{content_range, location_of}
use Rattle.acng_site.specs.declared.place.Place.TheVariants.{At}
use Rattle.acng_site.specs.declared.site.Site.{Ghosts as SiteGhosts}
use Rattle.acng_site.specs.Places.{is_redirect, place_of}
use Rattle.acng_grow.specs.Effects.{Errand, Part}
use Rattle.acng_grow.specs.Download.{Verdict, Begins, GoesOn, Stays, Follows, Passes, is_rest}
use Rattle.acng_fetch.specs.Fits.{IsRefusal}

-- a 206 to the ask with a tag at the partial body's own URL, for the rest of it
pub record IsOwnRest (ranged : Option Part) (url : List ℕ) (h : Head) (part : Part) : Type 0 where
  pub is : ranged ≡ Some part
  pub status : h.status ≡ 206
  pub tag : List ℕ
  pub tagged : part.facts.tag ≡ Some tag
  pub own : url ≡ part.url
  pub rest : is_rest part.size part.facts.total (content_range h) ≡ true

abbrev pub Judges : {S : Type 0} → SiteGhosts S → List ℕ → Errand → Option Part → List ℕ → Head → Verdict → Type 0
Judges s path e ranged url h Begins = h.status ≡ 200
Judges s path e ranged url h (GoesOn part) = IsOwnRest ranged url h part
Judges s path e ranged url h Stays = IsSomeAnd e.old (λ old. ⊤)
Judges s path e ranged url h (Follows to) = (is_redirect h.status ≡ true) × (place_of url (location_of h) ≡ At to)
Judges s path e ranged url h (Passes cause) = IsRefusal s path cause
