use Rattle.std.proofs.Common.{◌≡◌, ℕ, List, true, false, refl, subst}
use Rattle.acng_desk.specs.Calls.{PutRose}
use Rattle.acng_desk.specs.Commands.{is_out_of_ids}
use Rattle.acng_import.specs.Files.{file_at}
use Rattle.acng_import.specs.Fills.{FilledAs, IsFilled}
use Rattle.acng_import.specs.Imports.{FileDid, AreNamed, enter}
use Rattle.acng_import.specs.Looks.{shelf_of}
use Rattle.acng_import.specs.Puts.{Did}
use Rattle.acng_import.specs.declared.put.Arrival.{Arrival}
use Rattle.acng_import.proofs.Entering.{not_out}
use Rattle.acng_import.proofs.Filed.{worn_file, same_new, long_file, whole_file}
use Rattle.acng_import.proofs.Running.{if_did}
use Rattle.acng_import.proofs.Stepping.{body_made, entered_both}
use Rattle.acng_import.proofs.Faults.{none_read, not_fault, any_read}
use Rattle.acng_import.specs.declared.ending.FileEnd.TheVariants.{TooLong}
use Rattle.acng_import.proofs.file.import_file.Goals as goal

pub returns-in-Err-Worn-clause-did : goal.returns-in-Err-Worn-clause-did
returns-in-Err-Worn-clause-did g c = λ kt ft.
    let h = c.args.desk.now in
    let e = c.in-Err-Worn in
    let cause = subst (λ f. PutRose f h.plain h.faults c.new_body.new.self.faults) e.field-0-is e.ensures.cause in
    worn_file c.args.reach.now.indexes c.args.now h (file_at (g.F.Finder.bodies c.args.finder.now) c.args.i)
    (g.F.Finder.faults c.args.finder.now) c.new_body.new.self.plain cause e.ensures.same

pub returns-in-Whole-clause-did : goal.returns-in-Whole-clause-did
returns-in-Whole-clause-did g c = λ kt ft.
    let h = c.args.desk.now in
    let m = c.in-Ok.ensures in
    let h1 = c.new_body.new.self in
    let xs = c.args.reach.now.indexes in
    let file = file_at (g.F.Finder.bodies c.args.finder.now) c.args.i in
    let old = g.F.Finder.faults c.args.finder.now in
    let new = g.F.Finder.faults c.fill.new.finder in
    let tells = g.K.Body.BodyFile.tells in
    let b = g.K.Body.BodyFile.handle c.fill.new.body in
    let a : Arrival = record { hash = c.in-Whole.hash; size = c.len-size.result; now = c.args.now } in
    let id = c.in-Ok.made.0.0 in
    let ids : is_out_of_ids h.plain ≡ false = not_out h.plain h1.plain id m.id m.plain m.spare.below in
    let f = subst (λ (r : _). FilledAs g.F.Finder.tells tells file b old new r) c.in-Whole.is c.in-Ok-fill.ensures.filled in
    let filled : IsFilled true tells file c.in-Whole.hash b = subst (λ t. IsFilled t tells file c.in-Whole.hash b) ft f.0 in
    let names : Did → Type 0
    = λ d. (paths : List (List ℕ)) × AreNamed xs a.hash.0 a.size paths × (d ≡ enter a id (shelf_of h1) paths) in
    if_did names (FileDid xs c.args.now (shelf_of h) file old new) c.enter.result c.enter.new.desk.plain
    (λ (d : Did) (is : names d). whole_file xs c.args.now h file old new d (shelf_of h1) tells a b id is.0 ids f.1 filled c.len-size.ensures.size refl m.id
    (same_new h h1 m.plain (m.rests kt).stored_is) is.1 is.2)
    (c.enter.ensures.did kt)

pub returns-in-TooLong-clause-did : goal.returns-in-TooLong-clause-did
returns-in-TooLong-clause-did g c = λ kt ft.
    let h = c.args.desk.now in
    let m = c.in-Ok.ensures in
    let h1 = c.new_body.new.self in
    let xs = c.args.reach.now.indexes in
    let file = file_at (g.F.Finder.bodies c.args.finder.now) c.args.i in
    let old = g.F.Finder.faults c.args.finder.now in
    let new = g.F.Finder.faults c.fill.new.finder in
    let ids : is_out_of_ids h.plain ≡ false = not_out h.plain h1.plain c.in-Ok.made.0.0 m.id m.plain m.spare.below in
    let f = subst (λ (r : _). FilledAs g.F.Finder.tells g.K.Body.BodyFile.tells file (g.K.Body.BodyFile.handle c.fill.new.body) old new r)
    c.in-TooLong.is c.in-Ok-fill.ensures.filled in
    if_did _ (FileDid xs c.args.now (shelf_of h) file old new) c.let_go.result c.let_go.new.desk.plain
    (λ d is. long_file xs c.args.now h file old new d h1.plain ids f.1 (f.0 ft) m.plain is)
    c.let_go.ensures.did

pub returns-in-Whole-clause-only : goal.returns-in-Whole-clause-only
returns-in-Whole-clause-only g c = λ t. entered_both (body_made c.in-Ok.ensures.plain) (c.enter.ensures.only t)

pub returns-in-Whole-clause-enters : goal.returns-in-Whole-clause-enters
returns-in-Whole-clause-enters g c = entered_both (body_made c.in-Ok.ensures.plain) c.enter.ensures.enters

pub returns-in-Whole-clause-fault : goal.returns-in-Whole-clause-fault
returns-in-Whole-clause-fault g c = none_read c.enter.result _ c.enter.ensures.read

pub returns-in-TooLong-clause-fault : goal.returns-in-TooLong-clause-fault
returns-in-TooLong-clause-fault g c = none_read c.let_go.result _ (not_fault c.let_go.result TooLong refl c.let_go.ensures.end)

pub returns-in-Fault-clause-fault : goal.returns-in-Fault-clause-fault
returns-in-Fault-clause-fault g c =
    let rose = subst (λ (r : _). FilledAs g.F.Finder.tells g.K.Body.BodyFile.tells (file_at (g.F.Finder.bodies c.args.finder.now) c.args.i)
    (g.K.Body.BodyFile.handle c.fill.new.body) (g.F.Finder.faults c.args.finder.now) (g.F.Finder.faults c.fill.new.finder) r)
    c.in-Fault.is c.in-Ok-fill.ensures.filled in
    any_read c.let_go-in-Fault.result _ rose
