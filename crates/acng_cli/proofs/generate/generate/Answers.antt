use Rattle.std.proofs.Common.{◌≡◌, List, subst, ◌∙◌}
use Rattle.acng_site.specs.declared.site.Site.{Ghosts as SiteGhosts}
use Rattle.acng_conf.specs.Settings.{Settings}
use Rattle.acng_desk.specs.House.{House}
use Rattle.acng_cli.specs.declared.repository.RepositoryFile.{RepositoryFile}
use Rattle.acng_cli.specs.Generated.{IsFetched}
use Rattle.acng_cli.proofs.generate.generate.Goals as goal

same_files : {S : Type 0} {s : SiteGhosts S} {conf : Settings} {h : House} {xs ys : List RepositoryFile} → xs ≡ ys
    → IsFetched s conf xs h → IsFetched s conf ys h
same_files {S} {s} {conf} {h} is some = subst (λ fs. IsFetched s conf fs h) is some

pub returns : goal.returns
returns c = record {
  conf = c.in_ok-conf.conf;
  says = c.in_ok-conf.ensures;
  fetched = c.in_ok-cache.cache;
  is_fetched = same_files (c.as_slice.ensures.value ∙ c.in_ok-files.ensures) c.in_ok-cache.ensures;
  counts = c.in_ok-counts.counts;
  is_counted = c.in_ok-counts.ensures;
  line = c.in_ok-text.ensures;
}
