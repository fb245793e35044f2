-- What the methods of a growing body make of what it keeps.
use Rattle.std.proofs.Common.{◌≡◌, ℕ, ◌+◌, ◌≤◌, Bool, List, [], length, Option, None, Some, IfSome, refl, sym, subst, rules, arith}
use Rattle.acng_site.specs.declared.site.Site.{Ghosts as SiteGhosts}
use Rattle.acng_head.specs.declared.head.Label.{Label}
use Rattle.acng_head.specs.declared.head.Label.TheVariants.{Fetched, Imported}
use Rattle.acng_keeper.specs.Handles.{Handle, Appended}
use Rattle.acng_keeper.specs.Slips.{Faults, Later}
use Rattle.acng_grow.specs.declared.facts.Facts.{Facts}
use Rattle.acng_grow.specs.declared.facts.Seen.{Seen}
use Rattle.acng_grow.specs.declared.facts.Stage.{Stage}
use Rattle.acng_grow.specs.declared.facts.Stage.TheVariants.{Cut}
use Rattle.acng_grow.specs.declared.why.Why.{Why}
use Rattle.acng_grow.specs.Stands.{StandsFor, FactsStand}
use Rattle.acng_grow.specs.Grown.{File, grown_of, shown_why}
use Rattle.acng_grow.specs.Keeps.{IsSound, IsFetched, KeepsSeen, KeepsText}
use Rattle.acng_grow.specs.Allowed.{MayAdd}
use Rattle.acng_grow.specs.Takes.{LaterFile}
use Rattle.acng_grow.proofs.Kept.{seen_added, text_added}

-- the file's count of faults alone may have risen
pub rests : {S : Type 0} {s : SiteGhosts S} {tells : Bool} {path : List ℕ} {seen : Seen} (old new : Option File) → LaterFile old new
    → IsSound s tells (record { path = path; seen = seen; file = old })
    → IsSound s tells (record { path = path; seen = seen; file = new })
rests {s} {tells} {path} {seen} None new e i = subst (λ f. IsSound s tells (record { path = path; seen = seen; file = f })) (sym e) i
rests (Some f) None l i = absurd l
rests {s} {tells} {path} {seen} (Some (h, x)) (Some (k, y)) l i =
    let j : IsSound s tells (record { path = path; seen = seen; file = Some (k, x) }) =
    subst (λ h. IsSound s tells (record { path = path; seen = seen; file = Some (h, x) })) (sym l.0) i in
    let f = j.file in
    record {
      seen = j.seen;
      text = j.text;
      file = record {
        size = f.size;
        opening = f.opening;
        running = f.running;
        whole = f.whole;
        same = f.same;
        refused = f.refused;
        url = f.url;
        writable = f.writable;
      };
    }

-- the same of the fields
pub rested : {S F P Q : Type 0} {s : SiteGhosts S} {tells : Bool} (handle : F → Handle) (faults : F → Faults) (number : P
    → ℕ) (call : Q → ℕ)
    {path : List ℕ} {url : Option (List ℕ)} {st : Stage} {label : Option Label} {facts : Facts} {file : Option F} (why : Option (Why
    P Q)) (f new : F)
    → file ≡ Some f → handle new ≡ handle f → Later (faults f) (faults new)
    → IsSound s tells (grown_of handle faults number call path url st label facts file why)
    → IsSound s tells (grown_of handle faults number call path url st label facts (Some new) why)
rested {s} {tells} handle faults number call {path} {url} {st} {label} {facts} {file} why f new is same later i =
    let j = subst (λ file. IsSound s tells (grown_of handle faults number call path url st label facts file why)) is i in
    let seen = (grown_of handle faults number call path url st label facts (Some f) why).seen in
    let k : IsSound s tells (record { path = path; seen = seen; file = Some (handle new, faults new) }) =
    rests (Some (handle f, faults f)) (Some (handle new, faults new)) (same, later) j in
    subst (λ h. IsSound s tells (record {
      path = path;
      seen = record { url = url; stage = st; label = label; facts = facts; size = h.size; shown = shown_why number call label why };
      file = Some (handle new, faults new);
    })) (sym same) k

-- bytes were put at the end
pub added : {S F P Q : Type 0} {s : SiteGhosts S} {tells : Bool} (handle : F → Handle) (faults : F → Faults) (number : P
    → ℕ) (call : Q → ℕ)
    {path : List ℕ} {url : Option (List ℕ)} {st : Stage} {label : Option Label} {facts : Facts} {file : Option F} (why : Option (Why
    P Q)) (f new : F)
    (piece : List ℕ) → file ≡ Some f → Appended tells piece (handle f) (handle new)
    → MayAdd s path (grown_of handle faults number call path url st label facts file why).seen piece
    → IsSound s tells (grown_of handle faults number call path url st label facts file why)
    → IsSound s tells (grown_of handle faults number call path url st label facts (Some new) why)
added {s} {tells} handle faults number call {path} {url} {st} {label} {facts} {file} why f new piece is app may i =
    let j = subst (λ file. IsSound s tells (grown_of handle faults number call path url st label facts file why)) is i in
    let m = subst (λ file. MayAdd s path (grown_of handle faults number call path url st label facts file why).seen piece) is may in
    let g = (grown_of handle faults number call path url st label facts (Some f) why).seen in
    record {
      seen = subst (λ n. KeepsSeen s path (record g { size = n })) (sym app.size) (seen_added s path g piece m j.seen);
      text = λ t.
          subst (λ n. KeepsText s path (record g { size = n }) (handle new).bytes) (sym app.size)
          (subst (λ bytes. KeepsText s path (record g { size = (handle f).size + length piece }) bytes) (sym (app.bytes t))
          (text_added s path g piece (handle f).bytes m j.seen (j.text t)));
      file = record {
        size = refl;
        opening = λ e. absurd (search rules);
        running = λ e. refl;
        whole = λ e. absurd (search rules);
        same = λ e. absurd (search rules);
        refused = λ e. absurd (search rules);
        url = λ e. absurd (search rules);
        writable = λ e. app.writable;
      };
    }

-- ---- the file has gone to a row

-- no byte is a front of each file
empty_stands : {S : Type 0} (s : SiteGhosts S) (path : List ℕ) (label : Option Label) → IfSome label IsFetched
    → IfSome label (λ l. StandsFor s path l [])
empty_stands s path None f = tt
empty_stands s path (Some (Fetched first last)) f = λ _. refl
empty_stands s path (Some (Imported hash n)) f = absurd f

-- facts that were given at a URL were given
pub any_place : {S : Type 0} (s : SiteGhosts S) (path : List ℕ) (url : Option (List ℕ)) (label : Option Label) (facts : Facts)
    → IfSome label (λ l. FactsStand s path url l facts) → IfSome label (λ l. FactsStand s path None l facts)
any_place s path url None facts i = tt
any_place s path url (Some (Fetched first last)) facts i = record {
  total = i.total;
  from = λ t.
      let f = i.from t in
      record {
        ask = f.ask;
        head = f.head;
        place = f.place;
        at = tt;
        read = f.read;
        full = f.full;
        tag = f.tag;
        modified = f.modified;
        total = f.total;
      };
}
any_place s path url (Some (Imported hash n)) facts i = record { total = i.total; from = i.from }

none_below : (o : Option ℕ) → IfSome o (λ t. 0 ≤ t)
none_below None = tt
none_below (Some t) = omega arith

pub moved : {S F P Q : Type 0} {s : SiteGhosts S} {tells : Bool} (handle : F → Handle) (faults : F → Faults) (number : P
    → ℕ) (call : Q → ℕ)
    {path : List ℕ} (url new_url : Option (List ℕ)) {st : Stage} {label : Option Label} {facts : Facts} (file new_file : Option F)
    (why : Option (Why P Q)) → st ≡ Cut → new_url ≡ None → new_file ≡ None
    → IsSound s tells (grown_of handle faults number call path url st label facts file why)
    → IsSound s tells (grown_of handle faults number call path new_url st label facts new_file why)
moved {s} {tells} handle faults number call {path} url new_url {st} {label} {facts} file new_file why cut none gone i =
    let r = i.seen.cut cut in
    let j : IsSound s tells (grown_of handle faults number call path None st label facts None why) = record {
      seen = record {
        place = λ t. tt;
        facts = any_place s path url label facts i.seen.facts;
        lawful = i.seen.lawful;
        small = omega arith;
        room = none_below facts.total;
        dated = i.seen.dated;
        bounded = i.seen.bounded;
        opening = λ e. absurd (search rules);
        running = λ e. absurd (search rules);
        whole = λ e. absurd (search rules);
        same = λ e. absurd (search rules);
        cut = λ e. record { label = r.label; fetched = r.fetched; shown = r.shown; cuts = r.cuts; order = r.order };
        refused = λ e. absurd (search rules);
      };
      text = λ t. record {
        size = refl;
        stands = empty_stands s path label r.fetched;
        whole = λ e. absurd (search rules);
        same = λ e. absurd (search rules);
      };
      file = record {
        size = refl;
        opening = λ e. absurd (search rules);
        running = λ e. absurd (search rules);
        whole = λ e. absurd (search rules);
        same = λ e. absurd (search rules);
        refused = λ e. absurd (search rules);
        url = λ e there. absurd (search rules);
        writable = λ e. tt;
      };
    } in
    subst (λ u. IsSound s tells (grown_of handle faults number call path u st label facts new_file why)) (sym none)
    (subst (λ f. IsSound s tells (grown_of handle faults number call path None st label facts f why)) (sym gone) j)
