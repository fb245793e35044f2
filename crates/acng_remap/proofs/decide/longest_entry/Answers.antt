use Rattle.std.proofs.Common.{◌≡◌, Some, None, sym, ◌∙◌, subst, take}
use Rattle.acng_remap.specs.Decisions.{group_of}
use Rattle.acng_remap.proofs.Deciding.{Reaches, begins, hit, next, done}
use Rattle.acng_remap.proofs.decide.longest_entry.Goals as goal

pub loop-end-init : goal.loop-end-init
loop-end-init c = begins c.args.conf.now.groups c.args.place.now

pub returns-in-Some-group_of : goal.returns-in-Some-group_of
returns-in-Some-group_of c =
    let groups = c.args.conf.now.groups in
    let place = c.args.place.now in
    let n = c.in-Some.len in
    let r : Reaches groups place (Some n) = subst (Reaches groups place) c.in-Some.is c.loop-end.invariant in
    let h : group_of groups (take n place) ≡ Some c.in-Some-group_of.group = sym c.group_of.ensures.group_of ∙ c.in-Some-group_of.is in
    (r.0, c.in-Some-group_of.ensures.within, h, hit groups place n c.in-Some-group_of.group r h)

pub loop-end-preserved : goal.loop-end-preserved
loop-end-preserved c =
    let groups = c.args.conf.now.groups in
    let place = c.args.place.now in
    let n = c.in-Some.len in
    let r : Reaches groups place (Some n) = subst (Reaches groups place) c.in-Some.is c.loop-end.invariant in
    let h : group_of groups (take n place) ≡ None = sym c.group_of.ensures.group_of ∙ c.in_default-group_of.is in
    next groups place n r h c.last_slash-end.result c.last_slash-end.ensures

pub returns : goal.returns
returns c = done c.args.conf.now.groups c.args.place.now (subst (Reaches c.args.conf.now.groups c.args.place.now) c.in_default.is c.loop-end.invariant)
