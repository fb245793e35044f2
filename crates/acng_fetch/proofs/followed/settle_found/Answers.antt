use Rattle.std.proofs.Common.{◌≡◌, ◌⊎◌, true, refl, sym, subst}
use Rattle.acng_grow.specs.Agrees.{label_agrees, cause_agrees}
use Rattle.acng_desk.specs.Commands.{step, Settle}
use Rattle.acng_desk.specs.House.{spot_at}
use Rattle.acng_desk.specs.Settles.{Falls, IsLoaded, end_of, grown_after, was_label}
use Rattle.acng_fetch.proofs.LeadLemmas.{either, either_body}
use Rattle.acng_fetch.proofs.followed.settle_found.Goals as goal

pub returns : goal.returns
returns g c =
    let t = c.args.left.ticket in
    let b = c.args.body.now in
    let old = c.args.house.now in
    let new = c.settle.new.self in
    let last = c.settle.new.body in
    let end = end_of (spot_at old.plain b.path) t b in
    let seen = c.requires.seen in
    record {
      loads = record {
        old = old;
        fresh = new;
        final = last;
        loads = record {
          spent = t;
          body = b;
          info = refl;
          ends = c.requires.ends b c.requires.path c.requires.file seen;
          loaded = λ h. subst (λ p. IsLoaded g.S.Site t p) (sym seen) (c.requires.loaded h);
          label = subst (λ p. label_agrees t.info.first (was_label t.info) p.label ≡ true) (sym seen) c.requires.label;
          cause = subst (λ p. cause_agrees t.info.first p.shown ≡ true) (sym seen) c.requires.cause;
          left = either c.settle.result (new.plain ≡ step (Settle t b) old.plain) (Falls end t b old.plain new.plain) c.settle.ensures.plain;
          is = either_body (last ≡ grown_after end b) (last ≡ b)
              (either c.settle.result (last ≡ grown_after end b) ((last ≡ b) ⊎ (last ≡ grown_after end b)) c.settle.ensures.body);
        };
        answers = c.settle.ensures.settled;
        later = c.settle.ensures.later;
      };
    }
