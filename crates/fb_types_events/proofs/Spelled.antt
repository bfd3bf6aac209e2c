-- The text of the event blocks spells their trees.
use Rattle.std.proofs.Common.{◌≡◌, List, None, Some, Option, Result, Ok, Err, refl}
use Rattle.fb_model.specs.Tokens.{Token}
use Rattle.fb_model.specs.Declarations.{SourceTree}
use Rattle.fb_read.specs.Reading.{Wrong, syntax}
use Rattle.fb_text.specs.Reading.{whole_at}
use Rattle.fb_lex.specs.Scanning as S
use Rattle.fb_read.specs.Reading as R
use Rattle.fb_text.specs.Reading as T
use Rattle.st_parse.specs.ConstantReading as C
use Rattle.st_parse.specs.ExpressionReading as E
use Rattle.st_parse.specs.Reading as P
use Rattle.fb_model.specs.Sources.{IsSource}
use Rattle.fb_text.proofs.Laws.{tree_spelled}
use Rattle.fb_types_events.specs.declared.library.TheConstants.{EVENT_BLOCKS}
use Rattle.fb_types_events.proofs.Reckoned.{lexed, lexed_spells}
use Rattle.fb_types_events.proofs.EventTrees.{event_source}

abbrev tree_of : Option (List Token) → Result SourceTree Wrong
tree_of None = Err (syntax 0)
tree_of (Some ts) = whole_at ts

tokens_of : (o : Option (List Token)) (x : SourceTree) → tree_of o ≡ Ok x → (ts : List Token) × (o ≡ Some ts) × (whole_at ts ≡ Ok x)
tokens_of None x e = absurd (let f : (let l : Result SourceTree Wrong = Err (syntax 0) in l) ≡ Ok x = e in cc)
tokens_of (Some ts) x e = (ts, refl, e)

event_blocks_read : tree_of (lexed 3000 2263 EVENT_BLOCKS.now) ≡ Ok event_source
unfolding S.digits_at S.number_at S.unit_at S.amount_at S.span_at S.literal_at S.find_word S.find_sign S.word_at S.sign_at S.plain_at S.scan S.closes_at S.gap_at R.type_at R.many_at R.while_at R.separated_at R.closed_at R.section_at T.constant_at T.with_at T.event_at T.start_at T.plain_at T.names_at T.variable_at T.bounds_at T.array_at T.internal_at T.parameter_at T.parameters_at T.type_list_at T.types_at T.instance_at T.second_at T.port_at T.connection_at T.network_at T.output_at T.emitting_at T.running_at T.action_at T.actions_at T.state_at T.states_at T.guard_at T.where_at T.on_event_at T.guarded_at T.condition_at T.transition_at T.transitions_at T.text_at T.procedure_at T.chart_at T.basic_at T.composite_at T.body_at T.block_at T.resource_at T.device_at T.system_at T.file_at T.whole_at E.link_at E.chain_at E.level_at C.literal_at E.negative_at E.inverse_at E.parentheses_at E.element_at E.call_at E.named_at E.operand_of E.nested_at E.expression_at E.whole_at P.integer_at P.optional_at P.label_at P.assign_at P.element_at P.assignment_at P.branch_at P.else_at P.if_at P.arm_at P.case_at P.head_at P.for_at P.block_at P.statement_at P.entry_at P.entries_at P.nested_at P.whole_at
event_blocks_read = refl

pub event_source_spelled : IsSource EVENT_BLOCKS.now event_source
event_source_spelled =
    let r = tokens_of (lexed 3000 2263 EVENT_BLOCKS.now) event_source event_blocks_read in
    (r.0, lexed_spells 3000 EVENT_BLOCKS.now r.0 r.1, tree_spelled r.0 event_source r.2)
