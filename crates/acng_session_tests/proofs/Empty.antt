-- An empty keeper is faithful: it has no head.
use mathlib.Core.Bool.{true≢false}
use Rattle.std.proofs.Common.{◌≡◌, ℕ, List, Some, is_some, ap, sym, subst, ◌∙◌}
use Rattle.std.specs.FinMap as map
use Rattle.std.specs.Ordering.{nat_cmp}
use Rattle.acng_site.specs.declared.site.Site.{Ghosts as SiteGhosts}
use Rattle.acng_head.specs.Records.{record_text}
use Rattle.acng_keeper.specs.Kept.{Kept, nothing}
use Rattle.acng_grow.specs.Faithful.{IsFaithful}

no_head : (id : ℕ) (text : List ℕ) → map.get nothing.heads id ≡ Some text → ⊥
no_head id text e = true≢false (sym (ap is_some e) ∙ ap is_some (map.get-empty {X = List ℕ} nat_cmp id))

pub nothing_faithful : {S : Type 0} (s : SiteGhosts S) (k : Kept) → k ≡ nothing → IsFaithful s k
nothing_faithful s k is = subst (IsFaithful s) (sym is) (record {
  body = λ id h text g. absurd (no_head id (record_text h) g.head);
  facts = λ id h text g. absurd (no_head id (record_text h) g.head);
  sealed = λ id h e r. absurd (no_head id (record_text h) e);
})
