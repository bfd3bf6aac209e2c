-- Parts of an interface.
use Rattle.std.proofs.Common.{◌≡◌, ℕ, ◌≤◌, List, [], ◌++◌, Result, Ok, Err, IfOk, IfErr, map, length, sym, ap, subst, ◌∙◌, string_bytes, arith}
use Rattle.std.proofs.lemmas.List.{length-map}
use Rattle.std.specs.declared.string.String.{String}
use Rattle.std.specs.declared.alloc.Global.{Global}
use Rattle.indexmap.specs.IndexMap.{IndexMap}
use Rattle.fb_model.specs.Productions.{Word}
use Rattle.fb_model.specs.Declarations as decl
use Rattle.fb_model.specs.System as book
use Rattle.fb_model.specs.Typing.{AreDistinct, texts}
use Rattle.fb_model.specs.BlockTyping.{Declared, AreDeclared, IsFace, IsBasic, face_names, words_in, names_in, event_texts}
use Rattle.fb_tree.specs.declared.tree.EventTree.{EventTree}
use Rattle.fb_tree.specs.Files as tree
use Rattle.fb_faults.specs.declared.typing.TypeFault.{TypeFault}
use Rattle.fb_faults.specs.declared.typing.TypeFault.TheVariants.{OutOfMemory}
use Rattle.fb_types_blocks.specs.declared.typed.Variable.{Variable}
use Rattle.fb_types_blocks.specs.declared.typed.Face.{Face}
use Rattle.fb_types_blocks.specs.declared.typed.Block.{Block}
use Rattle.fb_types_blocks.specs.Answers.{names_in_map, Finds, IsTypedBlock}
use Rattle.fb_model.specs.BlockFaults.{event_words}
use Rattle.fb_types_blocks.specs.Views.{declared_of, declared_in, face_of, block_of}
use Rattle.fb_model.specs.BlockFaults.{IsFaceFault, IsBasicFault}
use Rattle.fb_types_blocks.proofs.Lists.{map_map, texts_append, new_split, new_second}
use Rattle.fb_types_blocks.proofs.Variables.{names_declared}
use Rattle.fb_types_blocks.proofs.Faultless.{no_face_fault}
use Rattle.fb_types_blocks.proofs.FaultlessBlocks.{no_block_fault}
use Rattle.fb_types_blocks.proofs.Single.{one_interface, one_basic}

-- the names of events
pub event_words_are : (es : List EventTree) → map (λ x. record { text = string_bytes x.name.text; at = x.name.at }) es ≡ event_words (map tree.event_of es)
event_words_are es = sym (map_map (λ e. e.name) tree.event_of es)

pub event_names_are : (es : List EventTree) → map (λ x. string_bytes x.name.text) es ≡ texts (event_words (map tree.event_of es))
event_names_are es = sym (map_map (λ w. w.text) (λ e. e.name) (map tree.event_of es) ∙ map_map (λ e. e.name.text) tree.event_of es)

-- a table of variables has their names
pub map_names : {S : Type 0} (m : IndexMap (String Global) Variable S) → names_in_map m ≡ names_in (declared_in m)
map_names m = sym (map_map (λ d. d.name) (λ p. declared_of (string_bytes p.0) p.1) m.entries)

pub table_names : {S : Type 0} (m : IndexMap (String Global) Variable S) (vs : List decl.VariableTree) → AreDeclared vs (declared_in m) → names_in_map m ≡ texts (words_in vs)
table_names m vs d = map_names m ∙ names_declared vs (declared_in m) d

pub few_declared : (vs : List decl.VariableTree) (ds : List Declared) (most : ℕ) → AreDeclared vs ds → length (words_in vs) ≤ most → length ds ≤ most
few_declared vs ds most d h =
    let e = ap length (names_declared vs ds d) in
    let i = length-map ds (λ x. x.name) in
    let j = length-map (words_in vs) (λ w. w.text) in
    omega (arith, h, e, i, j)

-- names that are all different are so in each of four parts
pub four_parts : (es fs vs ws : List Word) → AreDistinct (texts ((es ++ fs) ++ (vs ++ ws))) → AreDistinct (texts es) × AreDistinct (texts fs) × AreDistinct (texts vs) × AreDistinct (texts ws)
four_parts es fs vs ws h =
    let k : AreDistinct (texts (es ++ fs) ++ texts (vs ++ ws)) = subst AreDistinct (texts_append (es ++ fs) (vs ++ ws)) h in
    let a : AreDistinct (texts es ++ texts fs) = subst AreDistinct (texts_append es fs) (new_split [] (texts (es ++ fs)) (texts (vs ++ ws)) k).0 in
    let b : AreDistinct (texts vs ++ texts ws) = subst AreDistinct (texts_append vs ws) (new_second (texts (es ++ fs)) (texts (vs ++ ws)) k) in
    ((new_split [] (texts es) (texts fs) a).0, new_second (texts es) (texts fs) a, (new_split [] (texts vs) (texts ws) b).0, new_second (texts vs) (texts ws) b)

pub events_apart : (es : List decl.EventTree) → AreDistinct (texts (event_words es)) → AreDistinct (event_texts es)
events_apart es h = subst AreDistinct (map_map (λ w. w.text) (λ e. e.name) es) h

-- ---- what is well typed is found, unless memory ran out

pub out_of_memory : {X Y : Type 0} (view : X → Y) (y : Y) (f : TypeFault) → f ≡ OutOfMemory → Finds view (Err f) y
out_of_memory view y f e = subst (λ g. Finds view (Err g) y) (sym e) tt

pub face_only : (b : decl.BlockTree) (r : Result Face TypeFault) → IfOk r (λ x. IsFace b (declared_in x.inputs) (declared_in x.outputs) (face_of x)) → IfErr r (IsFaceFault b)
    → (ins outs : List Declared) (g : book.Face) → IsFace b ins outs g → AreDistinct (face_names b ins outs) → Finds face_of r g
face_only b (Ok x) found refused ins outs g h d = one_interface b (declared_in x.inputs) (declared_in x.outputs) ins outs (face_of x) g found h
face_only b (Err f) found refused ins outs g h d = out_of_memory face_of g f (no_face_fault b ins outs g f h d refused)

pub block_missed : (b : decl.BlockTree) (c : decl.ChartTree) (f : TypeFault) → IsBasicFault b c f → (k : book.Block) → IsBasic b c k → Finds block_of (Err f) k
block_missed b c f refused k h = out_of_memory block_of k f (no_block_fault b c k f h refused)

pub block_only : (b : decl.BlockTree) (c : decl.ChartTree) (x : Block) → IsTypedBlock b c x → (k : book.Block) → IsBasic b c k → block_of x ≡ k
block_only b c x found k h = one_basic b c (block_of x) k found.typed h
