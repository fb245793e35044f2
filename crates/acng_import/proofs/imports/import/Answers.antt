use Rattle.std.proofs.Common.{◌≡◌, ◌∙◌, List, [], Err, refl, sym, ap, subst, arith, length}
use mathlib.Core.Bool.{true≢false}
use Rattle.acng_reach.specs.Caches.{indexes}
use Rattle.acng_reach.specs.Desks.{cache_of}
use Rattle.acng_import.specs.declared.ending.Halt.{Halt}
use Rattle.acng_import.specs.Imports.{FileDid, RanFrom}
use Rattle.acng_import.specs.Ends.{has_fault}
use Rattle.acng_import.specs.Files.{file_at}
use Rattle.acng_import.specs.Looks.{shelf_of}
use Rattle.acng_import.specs.Puts.{IfDid}
use Rattle.acng_import.specs.declared.ending.FileEnd.{FileEnd}
use Rattle.acng_import.proofs.Faults.{one_more, kept_rose}
use Rattle.acng_import.proofs.Filed.{same_file}
use Rattle.acng_import.proofs.Running.{ran_none, ran_more}
use Rattle.acng_import.proofs.Stepping.{none_entered, entered_both, entered_named}
use Rattle.acng_import.proofs.imports.import.Goals as goal

pub returns-in-Err-Slip-clause-imported : goal.returns-in-Err-Slip-clause-imported
returns-in-Err-Slip-clause-imported g c = λ kt ft.
    let faults = g.F.Finder.faults c.args.finder.now in
    record {
      n = 0;
      within = omega arith;
      run = record { ends = []; house = c.of.new.desk; faults = faults };
      ran = ran_none g.S.Site g.K.Keeper.tells _ c.args.now (g.F.Finder.bodies c.args.finder.now) c.args.desk.now c.of.new.desk faults kt
          c.in-Err-Slip.ensures.rests;
      ends_are = sym c.new-ends.ensures;
    }

pub loop-i-init : goal.loop-i-init
loop-i-init g c =
    let tells = g.K.Keeper.tells in
    let xs = indexes (cache_of tells c.args.desk.now) in
    let files = g.F.Finder.bodies c.args.finder.now in
    let faults = g.F.Finder.faults c.args.finder.now in
    let h1 = c.of.new.desk in
    record {
      ran = λ kt ft.
          subst (λ (es : List FileEnd). RanFrom g.S.Site tells xs c.args.now files c.args.desk.now faults 0
          (record { ends = es; house = h1; faults = faults })) (sym c.new-ends.ensures)
          (ran_none g.S.Site tells xs c.args.now files c.args.desk.now h1 faults kt c.in-Ok.ensures.rests);
      only = λ t. none_entered (ap (λ r. r.plain) c.in-Ok.ensures.rests);
      enters = none_entered (ap (λ r. r.plain) c.in-Ok.ensures.rests);
      fault = λ has. absurd (true≢false (sym has ∙ ap has_fault c.new-ends.ensures));
      later = omega arith;
      names = refl;
      bodies = refl;
      may = ap (λ r. r.may_slip) c.in-Ok.ensures.rests;
    }

pub returns-in-Err-Worn-clause-imported : goal.returns-in-Err-Worn-clause-imported
returns-in-Err-Worn-clause-imported g c = λ kt ft.
    let s = c.loop-i in
    let i = s.invariant in
    let faults = g.F.Finder.faults in
    let e = c.in-Err-Worn in
    let ys = c.in-Ok.reach.indexes in
    let did = subst (λ (f : Halt _). IfDid (FileDid ys c.args.now (shelf_of s.desk) (file_at (g.F.Finder.bodies s.finder) s.i)
    (faults s.finder) (faults c.import_file.new.finder)) (Err f) c.import_file.new.desk.plain) e.field-0-is (e.ensures.did kt ft) in
    record {
      n = s.i;
      within = omega (arith, c.loop-i-test.true, c.count-i-end.ensures);
      run = record { ends = s.ends; house = s.desk; faults = faults s.finder };
      ran = i.ran kt ft;
      ends_are = refl;
      did = same_file _ ys c.args.now (shelf_of s.desk) (g.F.Finder.bodies c.args.finder.now) (g.F.Finder.bodies s.finder) s.i _ _ _
          (c.in-Ok.ensures.reach kt).indexes_are i.bodies did;
    }

pub returns-in-Err-Slip-import_file-clause-imported : goal.returns-in-Err-Slip-import_file-clause-imported
returns-in-Err-Slip-import_file-clause-imported g c = λ kt ft.
    let s = c.loop-i in
    record {
      n = s.i;
      within = omega (arith, c.loop-i-test.true, c.count-i-end.ensures);
      run = record { ends = s.ends; house = s.desk; faults = g.F.Finder.faults s.finder };
      ran = s.invariant.ran kt ft;
      ends_are = refl;
    }

pub loop-i-preserved : goal.loop-i-preserved
loop-i-preserved g c =
    let s = c.loop-i in
    let i = s.invariant in
    let faults = g.F.Finder.faults in
    let files = g.F.Finder.bodies c.args.finder.now in
    let tells = g.K.Keeper.tells in
    let xs = indexes (cache_of tells c.args.desk.now) in
    let e = c.in-Ok-import_file in
    record {
      ran = λ kt ft.
          ran_more g.S.Site tells xs c.args.now files c.args.desk.now (faults c.args.finder.now) s.i
          (record { ends = s.ends; house = s.desk; faults = faults s.finder })
          (record { ends = c.push.new.self; house = c.import_file.new.desk; faults = faults c.import_file.new.finder })
          (i.ran kt ft)
          (record {
            ended = e.end;
            ends_are = c.in-Ok-push.ensures.added;
            did = same_file xs c.in-Ok.reach.indexes c.args.now (shelf_of s.desk) files (g.F.Finder.bodies s.finder) s.i _ _ _
                (c.in-Ok.ensures.reach kt).indexes_are i.bodies (e.ensures.did kt ft);
          })
          c.keeps.ensures;
      only = λ t. entered_both (i.only t) (entered_named (c.in-Ok.ensures.reach t).indexes_are (e.ensures.only t));
      enters = entered_both i.enters e.ensures.enters;
      fault = one_more s.ends c.push.new.self e.end (faults c.args.finder.now) (faults s.finder) (faults c.import_file.new.finder)
          c.in-Ok-push.ensures.added i.fault i.later e.ensures.later e.ensures.fault;
      later = omega (arith, i.later, e.ensures.later);
      names = e.ensures.same_names ∙ i.names;
      bodies = e.ensures.same_bodies ∙ i.bodies;
      may = e.ensures.may ∙ i.may;
    }

pub returns-clause-imported : goal.returns-clause-imported
returns-clause-imported g c = λ kt ft.
    let s = c.loop-i in
    let faults = g.F.Finder.faults in
    let all : s.i ≡ length (g.F.Finder.names c.args.finder.now) = omega (arith, c.loop-i-test.false, s.auto.i-end, c.count-i-end.ensures) in
    subst (λ n. RanFrom g.S.Site g.K.Keeper.tells (indexes (cache_of g.K.Keeper.tells c.args.desk.now)) c.args.now
    (g.F.Finder.bodies c.args.finder.now) c.args.desk.now (faults c.args.finder.now) n
    (record { ends = s.ends; house = s.desk; faults = faults s.finder })) all (s.invariant.ran kt ft)

pub returns-in-Err-Worn-clause-only : goal.returns-in-Err-Worn-clause-only
returns-in-Err-Worn-clause-only g c = λ t.
    entered_both (c.loop-i.invariant.only t) (entered_named (c.in-Ok.ensures.reach t).indexes_are (c.import_file.ensures.only t))

pub returns-in-Err-Slip-import_file-clause-only : goal.returns-in-Err-Slip-import_file-clause-only
returns-in-Err-Slip-import_file-clause-only g c = λ t.
    entered_both (c.loop-i.invariant.only t) (entered_named (c.in-Ok.ensures.reach t).indexes_are (c.import_file.ensures.only t))

pub returns-in-Err-NoMemory-import_file-clause-only : goal.returns-in-Err-NoMemory-import_file-clause-only
returns-in-Err-NoMemory-import_file-clause-only g c = λ t.
    entered_both (c.loop-i.invariant.only t) (entered_named (c.in-Ok.ensures.reach t).indexes_are (c.import_file.ensures.only t))

pub returns-in_default-clause-only : goal.returns-in_default-clause-only
returns-in_default-clause-only g c = λ t.
    entered_both (c.loop-i.invariant.only t) (entered_named (c.in-Ok.ensures.reach t).indexes_are (c.import_file.ensures.only t))

pub returns-in-Err-Worn-clause-enters : goal.returns-in-Err-Worn-clause-enters
returns-in-Err-Worn-clause-enters g c = entered_both c.loop-i.invariant.enters c.import_file.ensures.enters

pub returns-in-Err-Slip-import_file-clause-enters : goal.returns-in-Err-Slip-import_file-clause-enters
returns-in-Err-Slip-import_file-clause-enters g c = entered_both c.loop-i.invariant.enters c.import_file.ensures.enters

pub returns-in-Err-NoMemory-import_file-clause-enters : goal.returns-in-Err-NoMemory-import_file-clause-enters
returns-in-Err-NoMemory-import_file-clause-enters g c = entered_both c.loop-i.invariant.enters c.import_file.ensures.enters

pub returns-in_default-clause-enters : goal.returns-in_default-clause-enters
returns-in_default-clause-enters g c = entered_both c.loop-i.invariant.enters c.import_file.ensures.enters

pub returns-in-Err-Worn-clause-fault : goal.returns-in-Err-Worn-clause-fault
returns-in-Err-Worn-clause-fault g c =
    let s = c.loop-i in
    let faults = g.F.Finder.faults in
    kept_rose s.ends (faults c.args.finder.now) (faults s.finder) (faults c.import_file.new.finder) s.invariant.fault c.import_file.ensures.later

pub returns-in-Err-Slip-import_file-clause-fault : goal.returns-in-Err-Slip-import_file-clause-fault
returns-in-Err-Slip-import_file-clause-fault g c =
    let s = c.loop-i in
    let faults = g.F.Finder.faults in
    kept_rose s.ends (faults c.args.finder.now) (faults s.finder) (faults c.import_file.new.finder) s.invariant.fault c.import_file.ensures.later

pub returns-in-Err-Slip-clause-fault : goal.returns-in-Err-Slip-clause-fault
returns-in-Err-Slip-clause-fault g c = λ has. absurd (true≢false (sym has ∙ ap has_fault c.new-ends.ensures))
