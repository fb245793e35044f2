use Rattle.std.proofs.Common.{sym, ap, ◌∙◌, inl, false, None}
use Rattle.acng_rows.specs.declared.stamp.Stamp.TheVariants.{Checked}
use Rattle.acng_rows.specs.Rows.{Rows, whole_at, out_at, stamped_in, restamped}
use Rattle.acng_desk.specs.House.{Plain}
use Rattle.acng_desk.specs.Settles.{is_out, left_with}
use Rattle.acng_desk.proofs.Endings.{stamp_out, stamp_left}
use Rattle.acng_desk.proofs.Stopped.{then_rest, then_files, as_stops, with_alike}
use Rattle.acng_desk.proofs.desk.Desk.same_load.Goals as goal

pub drop_load-requires : goal.drop_load-requires
drop_load-requires g c =
    let path = c.args.info.now.path in
    let p = c.args.self.now.plain in
    let i = c.args.info.now in
    record {
      out = ap (λ (q : Plain). is_out (out_at q.rows path) i) c.in_default.ensures.plain
          ∙ ap (λ o. is_out o i) (stamp_out p.rows path (Checked i.moment)) ∙ c.requires.out;
    }

pub returns-in-Ok-clause-plain : goal.returns-in-Ok-clause-plain
returns-in-Ok-clause-plain g c =
    let path = c.args.info.now.path in
    let p = c.args.self.now.plain in
    c.drop_load.ensures.plain ∙ ap (λ (q : Plain). left_with path (whole_at q.rows path) None q) c.in_default.ensures.plain
    ∙ ap (λ (r : Rows). record p { rows = r }) (stamp_left p.rows path (Checked c.args.info.now.moment) c.requires.held)

pub returns-in-Err-drop_load-clause-fell : goal.returns-in-Err-drop_load-clause-fell
returns-in-Err-drop_load-clause-fell g c =
    let path = c.args.info.now.path in
    let p = c.args.self.now.plain in
    inl (c.drop_load.ensures.plain ∙ ap (λ (q : Plain). left_with path (whole_at q.rows path) None q) c.in_default.ensures.plain
    ∙ ap (λ (r : Rows). record p { rows = r }) (stamp_left p.rows path (Checked c.args.info.now.moment) c.requires.held))

pub returns-in-Err-clause-stops : goal.returns-in-Err-clause-stops
returns-in-Err-clause-stops g c = λ told.
    let h = c.args.self.now in
    let path = c.args.info.now.path in
    let stamp = Checked c.args.info.now.moment in
    let x = stamped_in stamp (whole_at h.plain.rows path) in
    then_rest g.S.Site (left_with path x None h.plain).rows h c.stamp.new.self c.close.new.self c.close.ensures.kept
    (as_stops g.S.Site (restamped stamp h.plain.rows path) (left_with path x None h.plain).rows h c.stamp.new.self
    (with_alike h.plain.rows path x false) (c.stamp.ensures.stops told))

pub returns-in-Ok-clause-stops : goal.returns-in-Ok-clause-stops
returns-in-Ok-clause-stops g c = λ told.
    let h = c.args.self.now in
    let path = c.args.info.now.path in
    let stamp = Checked c.args.info.now.moment in
    let x = stamped_in stamp (whole_at h.plain.rows path) in
    let mid = c.stamp.new.self in
    let near = with_alike h.plain.rows path x false in
    then_files g.S.Site (left_with path x None h.plain).rows h mid c.drop_load.new.self
    (λ q. ap (λ (p : Plain). whole_at p.rows q) c.in_default.ensures.plain ∙ sym (near q))
    (as_stops g.S.Site (restamped stamp h.plain.rows path) (left_with path x None h.plain).rows h mid near (c.stamp.ensures.stops told))
    (c.in_default.ensures.exact told) (c.keeps.ensures.kept told).holds (c.drop_load.ensures.files told)

pub returns-in-Err-drop_load-clause-stops : goal.returns-in-Err-drop_load-clause-stops
returns-in-Err-drop_load-clause-stops g c = λ told.
    let h = c.args.self.now in
    let path = c.args.info.now.path in
    let stamp = Checked c.args.info.now.moment in
    let x = stamped_in stamp (whole_at h.plain.rows path) in
    let mid = c.stamp.new.self in
    let near = with_alike h.plain.rows path x false in
    then_files g.S.Site (left_with path x None h.plain).rows h mid c.drop_load.new.self
    (λ q. ap (λ (p : Plain). whole_at p.rows q) c.in_default.ensures.plain ∙ sym (near q))
    (as_stops g.S.Site (restamped stamp h.plain.rows path) (left_with path x None h.plain).rows h mid near (c.stamp.ensures.stops told))
    (c.in_default.ensures.exact told) (c.keeps.ensures.kept told).holds (c.drop_load.ensures.files told)

pub returns-in-Ok-clause-exact : goal.returns-in-Ok-clause-exact
returns-in-Ok-clause-exact g c = λ told found. (c.drop_load.ensures.files told).1 (c.in_default.ensures.exact told found)
