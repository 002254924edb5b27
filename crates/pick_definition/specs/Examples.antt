-- Computed examples of the picks.
use Rattle.std.specs.Prelude.{◌≡◌, refl, false, List, [], ◌∷◌, map, ℕ, zero, suc}
use Rattle.std.proofs.Math.Option.{Option, none, some}
use Rattle.ast.specs.Ast.{NodeOrigin, Statement, Url, Document, File}
use Rattle.pick_definition.specs.PickIn.{top_protos, first_named, pick_in}
use Rattle.pick_definition.specs.Picks.{Pick, library_file, pick_url, member, remember, pick_urls, picks_from, bases_from, walk_files, walk, final_bases, picks_under, picks, pick_of, prototype_in}

-- a root with an extern for each list of urls
abbrev root : List (List Url) → Document
root l = record {
  header = 0;
  nodes = [];
  protos = [];
  extern_protos = map (λ u. record { name = 0; interface = []; urls = u }) l;
  statements = [];
}

-- a file of a base, with a PROTO for each name, and a top-level Proto for each id
abbrev file : ℕ → List ℕ → List ℕ → File
file base names ids = record {
  base = base;
  document = record {
    header = 0;
    nodes = [];
    protos = map (λ n. record { name = n; interface = []; body = [] }) names;
    extern_protos = [];
    statements = map Statement.Proto ids;
  };
}

-- a file of a base that declares an extern for each list of urls, with a top-level Proto for each id
abbrev naming : ℕ → List (List Url) → List ℕ → File
naming base externs ids = record {
  base = base;
  document = record {
    header = 0;
    nodes = [];
    protos = [];
    extern_protos = map (λ u. record { name = 0; interface = []; urls = u }) externs;
    statements = map Statement.Proto ids;
  };
}

abbrev url : ℕ → Url
url base = record { base = base; fragment = none; used = false }

abbrev url_to : ℕ → ℕ → Url
url_to base name = record { base = base; fragment = some name; used = false }

-- a url for each base below n
abbrev below : ℕ → List Url
below zero = []
below (suc n) = url n ∷ below n

abbrev pick : ℕ → ℕ → ℕ → Option Pick
pick document proto url = some (record { document = document; proto = proto; url = url })

-- a root that names base 5, whose file names 6, whose file names 7
abbrev chain : List File
chain = naming 5 ((url 6 ∷ []) ∷ []) (1 ∷ []) ∷ naming 6 ((url 7 ∷ []) ∷ []) (2 ∷ []) ∷ naming 7 [] (3 ∷ []) ∷ []

-- two files that name each other
abbrev circle : List File
circle = naming 5 ((url 6 ∷ []) ∷ []) (1 ∷ []) ∷ naming 6 ((url 5 ∷ []) ∷ []) (2 ∷ []) ∷ []

-- the files of 5 and 6 name 7 both, that of 7 names 5
abbrev shared : List File
shared = naming 5 ((url 7 ∷ []) ∷ []) (1 ∷ []) ∷ naming 6 ((url 7 ∷ []) ∷ []) (2 ∷ []) ∷ naming 7 ((url 5 ∷ []) ∷ []) (3 ∷ []) ∷ []

-- that of 90 names 91, then 91 and else 90
abbrev last : List File
last = naming 90 ((url 91 ∷ []) ∷ (url 91 ∷ url 90 ∷ []) ∷ []) (2 ∷ []) ∷ file 91 [] (3 ∷ []) ∷ []

-- that of 65 names 67, that of 66 names 68, that of 67 names 69
abbrev tree : List File
tree = naming 65 ((url 67 ∷ []) ∷ []) (1 ∷ []) ∷ naming 66 ((url 68 ∷ []) ∷ []) (2 ∷ []) ∷ naming 67 ((url 69 ∷ []) ∷ []) (3 ∷ []) ∷ file 68 [] (4 ∷ []) ∷ file 69 [] (5 ∷ []) ∷ []

pub record Examples : Type 0 where
  -- of three files with one base, a file of another between them, the last: document 4, PROTO 3; the other base's is document 3
  pub last_of_three : picks (root ((url 5 ∷ []) ∷ (url 4 ∷ []) ∷ [])) (file 5 [] (1 ∷ []) ∷ file 5 [] (2 ∷ []) ∷ file 4 [] (9 ∷ []) ∷ file 5 [] (3 ∷ []) ∷ []) 0 ≡ pick 4 3 0 ∷ pick 3 9 0 ∷ []
  -- it counts where it has no such Proto too: the files before it are not looked at
  pub last_of_two : picks (root ((url_to 5 7 ∷ []) ∷ (url 5 ∷ url 4 ∷ []) ∷ [])) (file 5 (7 ∷ []) (0 ∷ []) ∷ file 4 [] (9 ∷ []) ∷ file 5 (8 ∷ []) [] ∷ []) 0 ≡ none ∷ pick 2 9 1 ∷ []
  -- without a fragment the first Proto is taken, dangling or not; with one dangling ids are passed over, and other names
  pub dangling : picks (root ((url 5 ∷ []) ∷ (url_to 5 7 ∷ []) ∷ (url_to 5 8 ∷ []) ∷ [])) (file 5 (6 ∷ 7 ∷ []) (9 ∷ 0 ∷ 1 ∷ []) ∷ []) 0 ≡ pick 1 9 0 ∷ pick 1 1 0 ∷ none ∷ []
  -- no pick, in a file without a Proto or for a base without a file: the next url
  pub next_url : picks (root ((url 3 ∷ url 4 ∷ url 5 ∷ []) ∷ [])) (file 4 (6 ∷ []) [] ∷ file 5 [] (2 ∷ []) ∷ []) 0 ≡ pick 2 2 2 ∷ []
  -- 63 unresolved bases and base 90 fill the table: base 91 is skipped, base 90 is still taken
  pub full : picks (root (below 63 ∷ (url 90 ∷ []) ∷ (url 91 ∷ []) ∷ (url 91 ∷ url 90 ∷ []) ∷ [])) (file 90 [] (2 ∷ []) ∷ file 91 [] (3 ∷ []) ∷ []) 0 ≡ none ∷ pick 1 2 0 ∷ none ∷ pick 1 2 1 ∷ []
  -- with one base fewer, base 91 is the 64th
  pub last_place : picks (root (below 62 ∷ (url 90 ∷ []) ∷ (url 91 ∷ []) ∷ [])) (file 90 [] (2 ∷ []) ∷ file 91 [] (3 ∷ []) ∷ []) 0 ≡ none ∷ pick 1 2 0 ∷ pick 2 3 0 ∷ []
  -- urls after a pick are not tried, and their bases don't count
  pub untried : picks (root ((url 90 ∷ below 70) ∷ (url 91 ∷ []) ∷ [])) (file 90 [] (2 ∷ []) ∷ file 91 [] (3 ∷ []) ∷ []) 0 ≡ pick 1 2 0 ∷ pick 2 3 0 ∷ []
  -- "The pick now also tells the index of the url it took.": of three urls of one base the one whose fragment is found
  pub same_base : picks (root ((url_to 5 8 ∷ url_to 5 7 ∷ url 5 ∷ []) ∷ [])) (file 5 (7 ∷ []) (0 ∷ []) ∷ []) 0 ≡ pick 1 0 1 ∷ []
  -- "A pick belongs to a document and an extern id": three documents have an extern 0, and each its own pick; a document without externs has none
  pub by_document : (pick_of (root ((url 5 ∷ []) ∷ [])) chain 0 0 ≡ pick 1 1 0) × (pick_of (root ((url 5 ∷ []) ∷ [])) chain 0 1 ≡ none) × (pick_of (root ((url 5 ∷ []) ∷ [])) chain 1 0 ≡ pick 2 2 0) × (pick_of (root ((url 5 ∷ []) ∷ [])) chain 2 0 ≡ pick 3 3 0) × (pick_of (root ((url 5 ∷ []) ∷ [])) chain 3 0 ≡ none)
  -- a circle of files: each is walked once
  pub round : (picks (root ((url 5 ∷ []) ∷ [])) circle 1 ≡ pick 2 2 0 ∷ []) × (picks (root ((url 5 ∷ []) ∷ [])) circle 2 ≡ pick 1 1 0 ∷ []) × (final_bases (root ((url 5 ∷ []) ∷ [])) circle ≡ 5 ∷ 6 ∷ [])
  -- a file that two externs of different files reach is one
  pub twice : (picks (root ((url 5 ∷ []) ∷ (url 6 ∷ []) ∷ [])) shared 1 ≡ pick 3 3 0 ∷ []) × (picks (root ((url 5 ∷ []) ∷ (url 6 ∷ []) ∷ [])) shared 2 ≡ pick 3 3 0 ∷ []) × (picks (root ((url 5 ∷ []) ∷ (url 6 ∷ []) ∷ [])) shared 3 ≡ pick 1 1 0 ∷ []) × (final_bases (root ((url 5 ∷ []) ∷ (url 6 ∷ []) ∷ [])) shared ≡ 5 ∷ 6 ∷ 7 ∷ [])
  -- a file without a pick is fetched too: its extern's base counts, and has a pick
  pub no_pick : (picks (root ((url 5 ∷ []) ∷ [])) (naming 5 ((url 6 ∷ []) ∷ []) [] ∷ file 6 [] (2 ∷ []) ∷ []) 0 ≡ none ∷ []) × (picks (root ((url 5 ∷ []) ∷ [])) (naming 5 ((url 6 ∷ []) ∷ []) [] ∷ file 6 [] (2 ∷ []) ∷ []) 1 ≡ pick 2 2 0 ∷ [])
  -- a file that no base leads to is not: its externs have no pick
  pub unfetched : picks (root ((url 5 ∷ []) ∷ [])) (file 5 [] (1 ∷ []) ∷ naming 6 ((url 5 ∷ []) ∷ []) (2 ∷ []) ∷ []) 2 ≡ []
  -- nor is the older of two files of a base
  pub older : (picks (root ((url 5 ∷ []) ∷ [])) (naming 5 ((url 5 ∷ []) ∷ []) (1 ∷ []) ∷ naming 5 ((url 5 ∷ []) ∷ []) (2 ∷ []) ∷ []) 1 ≡ []) × (picks (root ((url 5 ∷ []) ∷ [])) (naming 5 ((url 5 ∷ []) ∷ []) (1 ∷ []) ∷ naming 5 ((url 5 ∷ []) ∷ []) (2 ∷ []) ∷ []) 2 ≡ pick 2 2 0 ∷ [])
  -- "The 64 bases are counted over the whole run.": 63 of the root's, 90, and no place for 91; with one fewer, 91 is the 64th
  pub whole_run : (picks (root (below 63 ∷ (url 90 ∷ []) ∷ [])) last 1 ≡ none ∷ pick 1 2 1 ∷ []) × (picks (root (below 62 ∷ (url 90 ∷ []) ∷ [])) last 1 ≡ pick 2 3 0 ∷ pick 2 3 0 ∷ [])
  -- "in order of first fetch": the extern of the second file comes before that of the first file's file; its base is the 64th, the other's is skipped
  pub breadth : (picks (root (below 61 ∷ (url 65 ∷ []) ∷ (url 66 ∷ []) ∷ [])) tree 2 ≡ none ∷ []) × (picks (root (below 60 ∷ (url 65 ∷ []) ∷ (url 66 ∷ []) ∷ [])) tree 2 ≡ pick 4 4 0 ∷ []) × (picks (root (below 60 ∷ (url 65 ∷ []) ∷ (url 66 ∷ []) ∷ [])) tree 3 ≡ none ∷ [])
  -- ".. and an instance is now also ExternProto with a pick in any document."
  pub instances : (prototype_in (root ((url 5 ∷ []) ∷ [])) chain 1 (NodeOrigin.ExternProto 0) ≡ some (record { document = 2; proto = 2 })) × (prototype_in (root ((url 5 ∷ []) ∷ [])) chain 3 (NodeOrigin.ExternProto 0) ≡ none) × (prototype_in (root ((url 5 ∷ []) ∷ [])) chain 3 (NodeOrigin.Proto 4) ≡ some (record { document = 3; proto = 4 }))

computed : Examples
unfolding prototype_in pick_of picks picks_under final_bases walk walk_files bases_from picks_from pick_urls remember member pick_url library_file pick_in top_protos first_named
computed = record { last_of_three = refl; last_of_two = refl; dangling = refl; next_url = refl; full = refl; last_place = refl; untried = refl; same_base = refl; by_document = (refl, refl, refl, refl, refl); round = (refl, refl, refl); twice = (refl, refl, refl, refl); no_pick = (refl, refl); unfetched = refl; older = (refl, refl); whole_run = (refl, refl); breadth = (refl, refl, refl); instances = (refl, refl, refl) }
