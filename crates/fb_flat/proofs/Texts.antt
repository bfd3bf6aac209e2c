-- Paths in one text.
use Rattle.std.proofs.Common.{◌≡◌, List, [], ◌∷◌, ◌++◌, refl}
use Rattle.fb_model.specs.Names.{Name, Path}
use Rattle.fb_flat.specs.declared.site.Trail.{Trail, Resource, Inside'}
use Rattle.fb_flat.specs.Sites.{dotted, dotted_on, text_of, path_of}

-- a path has one name at least
pub data HasSome : Path → Type 0 where
  has_some : {n : Name} {ns : Path} → HasSome (n ∷ ns)

pub some_more : (p q : Path) → HasSome p → HasSome (p ++ q)
some_more [] q h = elim h [ ]
some_more (n ∷ ns) q h = has_some

pub path_some : (t : Trail) → HasSome (path_of t)
path_some (Resource device name) = has_some
path_some (Inside' name p outer) = some_more (path_of outer) (name.now ∷ []) (path_some outer)

dotted_more : (text : Name) (ns : List Name) (n : Name) → dotted_on text (ns ++ n ∷ []) ≡ dotted (dotted_on text ns) n
dotted_more text [] n = refl
dotted_more text (m ∷ ns) n = dotted_more (dotted text m) ns n

pub text_more : (p : Path) (n : Name) → HasSome p → text_of (p ++ n ∷ []) ≡ dotted (text_of p) n
text_more [] n h = elim h [ ]
text_more (m ∷ ns) n h = dotted_more m ns n

-- the text of a trail and one name more
pub text_inside : (t : Trail) (n : Name) → text_of (path_of t ++ n ∷ []) ≡ dotted (text_of (path_of t)) n
text_inside t n = text_more (path_of t) n (path_some t)
