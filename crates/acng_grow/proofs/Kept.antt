-- An effect that is allowed where it comes keeps what a body keeps.
use Rattle.std.proofs.Common.{◌≡◌, ◌≤◌, ◌<◌, ℕ, ◌+◌, true, List, [], ◌∷◌, ◌++◌, length, length-append, take, Option, Some, None}
use Rattle.std.proofs.Common.{IfSome, IsSome, IsSomeAnd, option_map, refl, ap, sym, subst, ◌∙◌, arith, rules}
use Rattle.std.proofs.Math.Seq.{take-length}
use Rattle.acng_site.specs.declared.site.Site.{Ghosts as SiteGhosts}
use Rattle.acng_head.specs.declared.head.Label.{Label}
use Rattle.acng_head.specs.declared.head.Label.TheVariants.{Fetched, Imported}
use Rattle.acng_grow.specs.declared.facts.Facts.{Facts}
use Rattle.acng_grow.specs.declared.facts.Seen.{Seen}
use Rattle.acng_grow.specs.declared.facts.Stage.TheVariants.{Whole, Cut as CutOff, Refused}
use Rattle.acng_grow.specs.declared.why.Shown.{Shown}
use Rattle.acng_grow.specs.Stands.{StandsFor, StandsWhole, StandsAt, FactsStand, file_of}
use Rattle.acng_grow.specs.Effects.{Effect, Start, GoOn, Resume, Bytes, Finish, Same, Refuse, Cut, Part, Old, Errand, Texts}
use Rattle.acng_grow.specs.Effects.{opening, started, went_on, kept_same, with_last, from_part, from_old, after, runs, text_after}
use Rattle.acng_grow.specs.Effects.{spells, last_of}
use Rattle.acng_grow.specs.Keeps.{IsBounded, IsFetched, HasRoom, HasTotal, KeepsSeen, KeepsText, Keeps, attempts_end}
use Rattle.acng_grow.specs.Allowed.{MayStart, MayGoOn, MayResume, MayAdd, MayFinish, MayKeep, MayRefuse, MayCut, Allowed, AllAllowed}
use Rattle.acng_grow.specs.Allowed.{PartStands, OldStands, TextsStand}
use Rattle.acng_grow.proofs.Fronts.{front_all, front_more, stands_piece, stands_rest}

-- ---- labels

none_below : (o : Option ℕ) → IfSome o (λ t. 0 ≤ t)
none_below None = tt
none_below (Some t) = omega arith

last_place : {S : Type 0} (s : SiteGhosts S) (path : List ℕ) (url : Option (List ℕ)) (n : ℕ) (label : Option Label) (facts : Facts)
    → IfSome label (λ l. FactsStand s path url l facts) → IfSome (option_map (with_last n) label) (λ l. FactsStand s path url l facts)
last_place s path url n None facts i = tt
last_place s path url n (Some (Fetched first last)) facts i = record { total = i.total; from = i.from }
last_place s path url n (Some (Imported hash size)) facts i = i

last_bounded : (n : ℕ) (label : Option Label) → last_of label ≤ n → n < attempts_end → IfSome label IsFetched → IfSome label IsBounded
    → IfSome (option_map (with_last n) label) IsBounded
last_bounded n None order bound f i = tt
last_bounded n (Some (Fetched first last)) order bound f i = let a = i.0 in (omega (arith, a, order), bound)
last_bounded n (Some (Imported hash size)) order bound f i = tt

last_fetched : (n : ℕ) (label : Option Label) → IfSome label IsFetched → IfSome (option_map (with_last n) label) IsFetched
last_fetched n None i = tt
last_fetched n (Some (Fetched first last)) i = tt
last_fetched n (Some (Imported hash size)) i = i

last_some : (n : ℕ) (label : Option Label) → IsSome label → IsSome (option_map (with_last n) label)
last_some n None i = i
last_some n (Some l) i = refl

-- ---- what is to be seen

pub seen_opening : {S : Type 0} (s : SiteGhosts S) (path : List ℕ) → KeepsSeen s path opening
seen_opening s path = record {
  place = λ t. tt;
  facts = tt;
  lawful = λ t. tt;
  small = omega arith;
  room = tt;
  dated = tt;
  bounded = tt;
  opening = λ e. record { label = refl; url = refl; shown = refl; size = refl };
  running = λ e. absurd (search rules);
  whole = λ e. absurd (search rules);
  same = λ e. absurd (search rules);
  cut = λ e. absurd (search rules);
  refused = λ e. absurd (search rules);
}

pub seen_started : {S : Type 0} (s : SiteGhosts S) (path : List ℕ) (g : Seen) (n : ℕ) (url : List ℕ) (facts : Facts)
    → MayStart s path g n url facts → KeepsSeen s path (started n url facts)
seen_started s path g n url facts m = record {
  place = m.place;
  facts = m.facts;
  lawful = λ t. tt;
  small = omega arith;
  room = none_below facts.total;
  dated = m.dated;
  bounded = (omega arith, m.bounded);
  opening = λ e. absurd (search rules);
  running = λ e. record { url = refl; label = refl; fetched = tt; shown = refl };
  whole = λ e. absurd (search rules);
  same = λ e. absurd (search rules);
  cut = λ e. absurd (search rules);
  refused = λ e. absurd (search rules);
}

pub seen_went_on : {S : Type 0} (s : SiteGhosts S) (path : List ℕ) (g : Seen) (n : ℕ) (p : Part) → MayGoOn s path g n p
    → KeepsSeen s path (went_on n p)
seen_went_on s path g n p m = record {
  place = m.place;
  facts = m.facts;
  lawful = λ t. tt;
  small = m.small;
  room = m.room;
  dated = m.dated;
  bounded = (m.order, m.bounded);
  opening = λ e. absurd (search rules);
  running = λ e. record { url = refl; label = refl; fetched = tt; shown = refl };
  whole = λ e. absurd (search rules);
  same = λ e. absurd (search rules);
  cut = λ e. absurd (search rules);
  refused = λ e. absurd (search rules);
}

pub seen_resumed : {S : Type 0} (s : SiteGhosts S) (path : List ℕ) (g : Seen) (n : ℕ) → MayResume g n → KeepsSeen s path g
    → KeepsSeen s path (record g { label = option_map (with_last n) g.label })
seen_resumed s path g n m k =
    let r = k.running m.running in
    record {
      place = k.place;
      facts = last_place s path g.url n g.label g.facts k.facts;
      lawful = k.lawful;
      small = k.small;
      room = k.room;
      dated = k.dated;
      bounded = last_bounded n g.label m.order m.bounded r.fetched k.bounded;
      opening = λ e. absurd (search rules);
      running = λ e. record {
        url = r.url;
        label = last_some n g.label r.label;
        fetched = last_fetched n g.label r.fetched;
        shown =
            r.shown;
      };
      whole = λ e. absurd (search rules);
      same = λ e. absurd (search rules);
      cut = λ e. absurd (search rules);
      refused = λ e. absurd (search rules);
    }

pub seen_added : {S : Type 0} (s : SiteGhosts S) (path : List ℕ) (g : Seen) (piece : List ℕ) → MayAdd s path g piece → KeepsSeen s path g
    → KeepsSeen s path (record g { size = g.size + length piece })
seen_added s path g piece m k =
    let r = k.running m.running in
    record {
      place = k.place;
      facts = k.facts;
      lawful = k.lawful;
      small = m.small;
      room = m.room;
      dated = k.dated;
      bounded = k.bounded;
      opening = λ e. absurd (search rules);
      running = λ e. record { url = r.url; label = r.label; fetched = r.fetched; shown = r.shown };
      whole = λ e. absurd (search rules);
      same = λ e. absurd (search rules);
      cut = λ e. absurd (search rules);
      refused = λ e. absurd (search rules);
    }

pub seen_finished : {S : Type 0} (s : SiteGhosts S) (path : List ℕ) (g : Seen) → MayFinish s path g → KeepsSeen s path g
    → KeepsSeen s path (record g { stage = Whole })
seen_finished s path g m k =
    let r = k.running m.running in
    record {
      place = k.place;
      facts = k.facts;
      lawful = k.lawful;
      small = k.small;
      room = k.room;
      dated = k.dated;
      bounded = k.bounded;
      opening = λ e. absurd (search rules);
      running = λ e. absurd (search rules);
      whole = λ e. record { url = r.url; label = r.label; fetched = r.fetched; shown = r.shown; total = m.total };
      same = λ e. absurd (search rules);
      cut = λ e. absurd (search rules);
      refused = λ e. absurd (search rules);
    }

total_room : (facts : Facts) (size : ℕ) → facts.total ≡ Some size → HasRoom facts size
total_room facts size is = subst (λ t. IfSome t (λ n. size ≤ n)) (sym is) (omega arith)

total_is : (facts : Facts) (size : ℕ) → facts.total ≡ Some size → HasTotal facts size
total_is facts size is = subst (λ t. IfSome t (λ n. n ≡ size)) (sym is) refl

pub seen_kept : {S : Type 0} (s : SiteGhosts S) (path : List ℕ) (g : Seen) (o : Old) → MayKeep s path g o → KeepsSeen s path (kept_same o)
seen_kept s path g o m = record {
  place = λ t. tt;
  facts = m.facts;
  lawful = λ t. tt;
  small = m.small;
  room = total_room o.facts o.size m.total;
  dated = m.dated;
  bounded = m.bounded;
  opening = λ e. absurd (search rules);
  running = λ e. absurd (search rules);
  whole = λ e. absurd (search rules);
  same = λ e. record { label = refl; shown = refl; total = total_is o.facts o.size m.total };
  cut = λ e. absurd (search rules);
  refused = λ e. absurd (search rules);
}

pub seen_refused : {S : Type 0} (s : SiteGhosts S) (path : List ℕ) (g : Seen) (c : Shown) → MayRefuse s path g c → KeepsSeen s path g
    → KeepsSeen s path (record g { stage = Refused; shown = Some c })
seen_refused s path g c m k =
    let o = k.opening m.opening in
    record {
      place = k.place;
      facts = k.facts;
      lawful = m.lawful;
      small = k.small;
      room = k.room;
      dated = k.dated;
      bounded = k.bounded;
      opening = λ e. absurd (search rules);
      running = λ e. absurd (search rules);
      whole = λ e. absurd (search rules);
      same = λ e. absurd (search rules);
      cut = λ e. absurd (search rules);
      refused = λ e. record { label = o.label; size = o.size; shown = refl; refuses = m.refuses };
    }

pub seen_cut : {S : Type 0} (s : SiteGhosts S) (path : List ℕ) (g : Seen) (c : Shown) → MayCut s path g c → KeepsSeen s path g
    → KeepsSeen s path (record g { stage = CutOff; shown = Some c })
seen_cut s path g c m k =
    let r = k.running m.running in
    record {
      place = k.place;
      facts = k.facts;
      lawful = m.lawful;
      small = k.small;
      room = k.room;
      dated = k.dated;
      bounded = k.bounded;
      opening = λ e. absurd (search rules);
      running = λ e. absurd (search rules);
      whole = λ e. absurd (search rules);
      same = λ e. absurd (search rules);
      cut = λ e. record { label = r.label; fetched = r.fetched; shown = refl; cuts = m.cuts; order = m.order };
      refused = λ e. absurd (search rules);
    }

-- ---- the text

last_stands : {S : Type 0} (s : SiteGhosts S) (path : List ℕ) (n : ℕ) (label : Option Label) (text : List ℕ)
    → IfSome label (λ l. StandsFor s path l text) → IfSome (option_map (with_last n) label) (λ l. StandsFor s path l text)
last_stands s path n None text i = tt
last_stands s path n (Some (Fetched first last)) text i = i
last_stands s path n (Some (Imported hash size)) text i = i

stands_more : {S : Type 0} (s : SiteGhosts S) (path : List ℕ) (label : Option Label) (text piece : List ℕ) (size : ℕ)
    → IfSome label IsFetched
    → IfSome label (λ l. StandsFor s path l text) → (s.tells ≡ true → IfSome label (λ l. StandsAt (file_of s path l) size piece))
    → size ≡ length text → IfSome label (λ l. StandsFor s path l (text ++ piece))
stands_more s path None text piece size fetched stands next is = tt
stands_more s path (Some (Fetched first last)) text piece size fetched stands next is =
    λ t. front_more (s.instance first path) text piece size (stands t) (next t) is
stands_more s path (Some (Imported hash n)) text piece size fetched stands next is = absurd fetched

whole_for : {S : Type 0} (s : SiteGhosts S) (path : List ℕ) (label : Option Label) (text : List ℕ) (size : ℕ) → IfSome label IsFetched
    → IfSome label (λ l. StandsFor s path l text) → (s.tells ≡ true → IfSome label (λ l. length (file_of s path l) ≡ size))
    → size ≡ length text → IfSome label (λ l. StandsWhole s path l text)
whole_for s path None text size fetched stands all is = tt
whole_for s path (Some (Fetched first last)) text size fetched stands all is =
    λ t. front_all (s.instance first path) text size (stands t) (all t) is
whole_for s path (Some (Imported hash n)) text size fetched stands all is = absurd fetched

whole_front : {S : Type 0} (s : SiteGhosts S) (path : List ℕ) (label : Label) (text : List ℕ) → StandsWhole s path label text
    → StandsFor s path label text
whole_front s path (Fetched first last) text i = λ t. subst (λ f. take (length text) f ≡ text) (sym (i t)) (take-length text)
whole_front s path (Imported hash size) text i = i

pub text_started : {S : Type 0} (s : SiteGhosts S) (path : List ℕ) (n : ℕ) (url : List ℕ) (facts : Facts) (text : List ℕ) → text ≡ []
    → KeepsText s path (started n url facts) text
text_started s path n url facts text is = subst (λ t. KeepsText s path (started n url facts) t) (sym is) (record {
  size = refl;
  stands = λ t. refl;
  whole = λ e. absurd (search rules);
  same = λ e. absurd (search rules);
})

pub text_went_on : {S : Type 0} (s : SiteGhosts S) (path : List ℕ) (n : ℕ) (p : Part) (text : List ℕ) → p.size ≡ length text
    → StandsFor s path (Fetched p.first n) text → KeepsText s path (went_on n p) text
text_went_on s path n p text size stands = record {
  size = size;
  stands = stands;
  whole = λ e. absurd (search rules);
  same = λ e. absurd (search rules);
}

pub text_resumed : {S : Type 0} (s : SiteGhosts S) (path : List ℕ) (g : Seen) (n : ℕ) (text : List ℕ) → MayResume g n
    → KeepsText s path g text
    → KeepsText s path (record g { label = option_map (with_last n) g.label }) text
text_resumed s path g n text m k = record {
  size = k.size;
  stands = last_stands s path n g.label text k.stands;
  whole = λ e. absurd (search rules);
  same = λ e. absurd (search rules);
}

pub text_added : {S : Type 0} (s : SiteGhosts S) (path : List ℕ) (g : Seen) (piece text : List ℕ) → MayAdd s path g piece
    → KeepsSeen s path g
    → KeepsText s path g text → KeepsText s path (record g { size = g.size + length piece }) (text ++ piece)
text_added s path g piece text m i k = record {
  size = ap (λ n. n + length piece) k.size ∙ sym (length-append text piece);
  stands = stands_more s path g.label text piece g.size (i.running m.running).fetched k.stands m.stands k.size;
  whole = λ e. absurd (search rules);
  same = λ e. absurd (search rules);
}

pub text_finished : {S : Type 0} (s : SiteGhosts S) (path : List ℕ) (g : Seen) (text : List ℕ) → MayFinish s path g → KeepsSeen s path g
    → KeepsText s path g text → KeepsText s path (record g { stage = Whole }) text
text_finished s path g text m i k = record {
  size = k.size;
  stands = k.stands;
  whole = λ e. whole_for s path g.label text g.size (i.running m.running).fetched k.stands m.whole k.size;
  same = λ e. absurd (search rules);
}

pub text_kept : {S : Type 0} (s : SiteGhosts S) (path : List ℕ) (o : Old) (text : List ℕ) → o.size ≡ length text
    → StandsWhole s path o.label text
    → KeepsText s path (kept_same o) text
text_kept s path o text size stands = record {
  size = size;
  stands = whole_front s path o.label text stands;
  whole = λ e. absurd (search rules);
  same = λ e. stands;
}

pub text_refused : {S : Type 0} (s : SiteGhosts S) (path : List ℕ) (g : Seen) (c : Shown) (text : List ℕ) → KeepsText s path g text
    → KeepsText s path (record g { stage = Refused; shown = Some c }) text
text_refused s path g c text k =
    record { size = k.size; stands = k.stands; whole = λ e. absurd (search rules); same = λ e. absurd (search rules) }

pub text_cut : {S : Type 0} (s : SiteGhosts S) (path : List ℕ) (g : Seen) (c : Shown) (text : List ℕ) → KeepsText s path g text
    → KeepsText s path (record g { stage = CutOff; shown = Some c }) text
text_cut s path g c text k =
    record { size = k.size; stands = k.stands; whole = λ e. absurd (search rules); same = λ e. absurd (search rules) }

-- ---- an effect

part_keeps : {S : Type 0} (s : SiteGhosts S) (path : List ℕ) (n : ℕ) (o : Option Part) (g : Seen) (text : List ℕ)
    → IsSomeAnd o (MayGoOn s path g n)
    → IfSome o (PartStands s path text) → Keeps s path (from_part n o g) text
part_keeps s path n None g text may stands = absurd may
part_keeps s path n (Some p) g text may stands =
    record { seen = seen_went_on s path g n p may; text = text_went_on s path n p text stands.size stands.stands }

old_keeps : {S : Type 0} (s : SiteGhosts S) (path : List ℕ) (o : Option Old) (g : Seen) (text : List ℕ) → IsSomeAnd o (MayKeep s path g)
    → IfSome o (OldStands s path text) → Keeps s path (from_old o g) text
old_keeps s path None g text may stands = absurd may
old_keeps s path (Some o) g text may stands =
    record { seen = seen_kept s path g o may; text = text_kept s path o text stands.size stands.stands }

pub step_keeps : {S : Type 0} (s : SiteGhosts S) (path : List ℕ) (e : Errand) (held : Texts) (g : Seen) (text : List ℕ) (x : Effect)
    → TextsStand s path e held → Keeps s path g text → Allowed s path e g x → Keeps s path (after e g x) (text_after held text x)
step_keeps s path e held g text (Start n url facts) h k a =
    record { seen = seen_started s path g n url facts a; text = text_started s path n url facts [] refl }
step_keeps s path e held g text (GoOn n) h k a = part_keeps s path n e.part g held.part a h.part
step_keeps s path e held g text (Resume n) h k a =
    record { seen = seen_resumed s path g n a k.seen; text = text_resumed s path g n text a k.text }
step_keeps s path e held g text (Bytes piece) h k a =
    record { seen = seen_added s path g piece a k.seen; text = text_added s path g piece text a k.seen k.text }
step_keeps s path e held g text Finish h k a =
    record { seen = seen_finished s path g a k.seen; text = text_finished s path g text a k.seen k.text }
step_keeps s path e held g text Same h k a = old_keeps s path e.old g held.old a h.old
step_keeps s path e held g text (Refuse cause) h k a =
    record { seen = seen_refused s path g cause a k.seen; text = text_refused s path g cause text k.text }
step_keeps s path e held g text (Cut cause) h k a =
    record { seen = seen_cut s path g cause a k.seen; text = text_cut s path g cause text k.text }

-- ---- effects in order

-- a body that opens
pub opens : {S : Type 0} (s : SiteGhosts S) (path : List ℕ) → Keeps s path opening []
opens s path = record {
  seen = seen_opening s path;
  text = record { size = refl; stands = tt; whole = λ e. absurd (search rules); same = λ e. absurd (search rules) };
}

-- every front of allowed effects keeps it
pub front_keeps : {S : Type 0} (s : SiteGhosts S) (path : List ℕ) (e : Errand) (held : Texts) (g : Seen) (text : List ℕ) (xs ys :
    List Effect)
    → TextsStand s path e held → Keeps s path g text → AllAllowed s path e g (xs ++ ys) → Keeps s path (runs e xs g) (spells held xs text)
front_keeps s path e held g text [] ys h k a = k
front_keeps s path e held g text (x ∷ xs) ys h k a =
    front_keeps s path e held (after e g x) (text_after held text x) xs ys h (step_keeps s path e held g text x h k a.0) a.1

pub allowed_append : {S : Type 0} (s : SiteGhosts S) (path : List ℕ) (e : Errand) (g : Seen) (xs ys : List Effect)
    → AllAllowed s path e g xs
    → AllAllowed s path e (runs e xs g) ys → AllAllowed s path e g (xs ++ ys)
allowed_append s path e g [] ys a b = b
allowed_append s path e g (x ∷ xs) ys a b = (a.0, allowed_append s path e (after e g x) xs ys a.1 b)

-- bytes that are allowed are allowed in two parts
piece_of : {S : Type 0} (s : SiteGhosts S) (path : List ℕ) (label : Option Label) (len : ℕ) (a b : List ℕ)
    → IfSome label (λ l. StandsAt (file_of s path l) len (a ++ b)) → IfSome label (λ l. StandsAt (file_of s path l) len a)
piece_of s path None len a b h = tt
piece_of s path (Some l) len a b h = stands_piece (file_of s path l) len a b h

rest_of : {S : Type 0} (s : SiteGhosts S) (path : List ℕ) (label : Option Label) (len : ℕ) (a b : List ℕ)
    → IfSome label (λ l. StandsAt (file_of s path l) len (a ++ b)) → IfSome label (λ l. StandsAt (file_of s path l) (len + length a) b)
rest_of s path None len a b h = tt
rest_of s path (Some l) len a b h = stands_rest (file_of s path l) len a b h

less_room : (facts : Facts) (n m : ℕ) → n ≤ m → HasRoom facts m → HasRoom facts n
less_room facts n m less room = by_total facts.total room
  where
    by_total : (o : Option ℕ) → IfSome o (λ t. m ≤ t) → IfSome o (λ t. n ≤ t)
    by_total None i = tt
    by_total (Some t) i = omega (arith, i, less)

pub cut_bytes : {S : Type 0} (s : SiteGhosts S) (path : List ℕ) (e : Errand) (g : Seen) (a b : List ℕ) (xs : List Effect)
    → AllAllowed s path e g (Bytes (a ++ b) ∷ xs) → AllAllowed s path e g (Bytes a ∷ Bytes b ∷ xs)
cut_bytes s path e g a b xs h =
    let l = length-append a b in
    let sum : g.size + length (a ++ b) ≡ g.size + length a + length b = omega (arith, l) in
    let few : g.size + length a ≤ g.size + length (a ++ b) = omega (arith, l) in
    let small = h.0.small in
    let first : MayAdd s path g a = record {
      running = h.0.running;
      small = omega (arith, small, few);
      room = less_room g.facts (g.size + length a) (g.size + length (a ++ b)) few h.0.room;
      stands = λ t. piece_of s path g.label g.size a b (h.0.stands t);
    } in
    let second : MayAdd s path (record g { size = g.size + length a }) b = record {
      running = h.0.running;
      small = omega (arith, small, sum);
      room = subst (HasRoom g.facts) sum h.0.room;
      stands = λ t. rest_of s path g.label g.size a b (h.0.stands t);
    } in
    (first, (second, subst (λ n. AllAllowed s path e (record g { size = n }) xs) sum h.1))
