use Rattle.std.proofs.Common.{◌≡◌, ◌∙◌, ◌++◌, ◌∷◌, [], ◌&&◌, ◌+◌, ap, ap₂, sym, map, take, true, suc, slice_index_or, subst, rules, arith}
use Rattle.std.specs.List.{list_all}
use Rattle.std.specs.Str.{IsUtf8, is_utf8}
use Rattle.std.proofs.Math.Seq.{take-suc}
use Rattle.std.proofs.lemmas.List.{map-append}
use Rattle.std.proofs.lemmas.List.Folds.{list_all-append}
use Rattle.std.proofs.lemmas.Str.{is_utf8-from_IsUtf8}
use Rattle.acng_cli.proofs.WordsForm.{not_text}
use Rattle.acng_cli.proofs.words.texts_of.Goals as goal

pub returns-in_default-clause-refused : goal.returns-in_default-clause-refused
returns-in_default-clause-refused c _ =
    let word : c.as_bytes.result.now ≡ slice_index_or c.args.words.now c.loop-word.word-index c.word-item.result = c.as_bytes.ensures ∙ c.word-item.is in
    not_text c.args.words.now c.loop-word.word-index c.word-item.result (search rules) (λ is. c.in_default.ensures.cases.0 (subst IsUtf8 (sym word) is))

pub loop-word-preserved : goal.loop-word-preserved
loop-word-preserved c =
    let i = c.loop-word.word-index in
    let words = c.args.words.now in
    let word = c.word-item.result in
    let next : i + 1 ≡ suc i = omega arith in
    let there : take (i + 1) words ≡ take i words ++ (word ∷ []) =
    ap (λ n. take n words) next ∙ take-suc words i word (search rules) ∙ ap (λ w. take i words ++ (w ∷ [])) (sym c.word-item.is) in
    let text : c.in-Ok.text.now ≡ word = c.in-Ok.ensures.cases.0 ∙ c.as_bytes.ensures in
    let utf8 : is_utf8 word ≡ true = is_utf8-from_IsUtf8 word (subst IsUtf8 c.as_bytes.ensures c.in-Ok.ensures.cases.1) in
    record {
      same = ap (map (λ s. s.now)) c.in-Ok-push.ensures.items ∙ map-append (λ s. s.now) c.loop-word.texts.items (c.in-Ok.text ∷ []) ∙ ap₂ (λ a b. a ++ (b ∷ [])) c.loop-word.invariant.same text ∙ sym there;
      utf8 = ap (list_all is_utf8) there ∙ list_all-append is_utf8 (take i words) (word ∷ []) ∙ ap₂ (λ a b. a && (b && true)) c.loop-word.invariant.utf8 utf8;
    }
