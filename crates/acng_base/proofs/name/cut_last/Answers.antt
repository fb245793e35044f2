use Rattle.std.proofs.Common.{◌+◌, ◌∙◌, rules}
use Rattle.acng_base.proofs.Ranges.{rest_is_drop}
use Rattle.acng_base.proofs.Folders.{last_after, before_after, last_alone, before_alone, folder_after, folder_alone}
use Rattle.acng_base.proofs.name.cut_last.Goals as goal

pub returns-in-Some-clause-last : goal.returns-in-Some-clause-last
returns-in-Some-clause-last c =
    let path = c.args.path.now in
    rest_is_drop (c.in-Some.at + 1) path ∙ last_after path c.in-Some.at (search rules) (search rules) (search rules)

pub returns-in-Some-clause-before : goal.returns-in-Some-clause-before
returns-in-Some-clause-before c = λ n. before_after c.args.path.now c.in-Some.at (search rules) (search rules) (search rules) n

pub returns-in-None-clause-last : goal.returns-in-None-clause-last
returns-in-None-clause-last c = last_alone c.args.path.now (search rules)

pub returns-in-None-clause-before : goal.returns-in-None-clause-before
returns-in-None-clause-before c = before_alone c.args.path.now (search rules)

pub returns-in-Some-clause-folder : goal.returns-in-Some-clause-folder
returns-in-Some-clause-folder c = folder_after c.args.path.now c.in-Some.at (search rules) (search rules) (search rules)

pub returns-in-None-clause-folder : goal.returns-in-None-clause-folder
returns-in-None-clause-folder c = folder_alone c.args.path.now (search rules)
