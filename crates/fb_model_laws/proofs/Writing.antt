-- Well typed algorithms write variables that may be assigned.
use Rattle.std.proofs.Common.{◌≡◌, true, List, [], ◌∷◌, ◌++◌, Some}
use Rattle.std.specs.List.{AllByRecursion}
use Rattle.fb_words.specs.declared.elem_type.ElemType.{ElemType}
use Rattle.fb_model.specs.Names.{Name}
use Rattle.fb_model.specs.StructuredText.{Statement, Statements, Branches, Arms}
use Rattle.fb_model.specs.TypedText.{Command, Choices, Cases}
use Rattle.fb_model.specs.Language.{Algorithm}
use Rattle.fb_model.specs.TextTyping.{Symbol, found, IsAssignable, IsCommand, an_assignment, to_element, a_choice, a_selection, an_iteration, AreCommands, no_command, a_command, AreChoices, no_choices, more_choices, AreCases, no_cases, more_cases}
use Rattle.fb_model.proofs.Lists.{all_append}
use Rattle.fb_model.specs.Shapes.{written_one, written, written_choices, written_cases}

-- a variable that may be assigned
abbrev pub IsWritable : List Symbol → Name → Type 0
IsWritable env x = (v : Symbol) × (found env x ≡ Some v) × (v.writable ≡ true)

module _ (env : List Symbol) where
  target : (busy : List Name) (x : Name) (v : Symbol) → IsAssignable env busy x v → IsWritable env x
  target busy x v h = (v, h.known, h.writable)

  mutual
    command_writes : (busy : List Name) (s : Statement) (c : Command) → IsCommand env busy s c → AllByRecursion (IsWritable env) (written_one c)
    command_writes busy _ _ (an_assignment {x = x} {v = v} a b t) = (target busy x.text v a, tt)
    command_writes busy _ _ (to_element {x = x} {v = v} a b t k u) = (target busy x.text v a, tt)
    command_writes busy _ _ (a_choice {bs = bs} {xs = xs} {cs = cs} {c = c} h k) = all_append (IsWritable env) (written_choices cs) (written c) (choices_write busy bs cs h) (commands_write busy xs c k)
    command_writes busy _ _ (a_selection {bs = bs} {xs = xs} {a = type} {cs = cs} {c = c} t s h k) = all_append (IsWritable env) (written_cases cs) (written c) (cases_write busy type bs cs h) (commands_write busy xs c k)
    command_writes busy _ _ (an_iteration {x = x} {xs = xs} {v = v} {c = c} a b i t u k h) = (target busy x.text v a, commands_write (busy ++ x.text ∷ []) xs c h)

    pub commands_write : (busy : List Name) (xs : Statements) (c : Algorithm) → AreCommands env busy xs c → AllByRecursion (IsWritable env) (written c)
    commands_write busy _ _ no_command = tt
    commands_write busy _ _ (a_command {x = x} {xs = xs} {c = c} {cs = cs} h k) = all_append (IsWritable env) (written_one c) (written cs) (command_writes busy x c h) (commands_write busy xs cs k)

    choices_write : (busy : List Name) (bs : Branches) (cs : Choices) → AreChoices env busy bs cs → AllByRecursion (IsWritable env) (written_choices cs)
    choices_write busy _ _ no_choices = tt
    choices_write busy _ _ (more_choices {xs = xs} {bs = bs} {c = c} {cs = cs} t h k) = all_append (IsWritable env) (written c) (written_choices cs) (commands_write busy xs c h) (choices_write busy bs cs k)

    cases_write : (busy : List Name) (type : ElemType) (bs : Arms) (cs : Cases) → AreCases env busy type bs cs → AllByRecursion (IsWritable env) (written_cases cs)
    cases_write busy type _ _ no_cases = tt
    cases_write busy type _ _ (more_cases {xs = xs} {bs = bs} {c = c} {cs = cs} l h k) = all_append (IsWritable env) (written c) (written_cases cs) (commands_write busy xs c h) (cases_write busy type bs cs k)
