pub mod MemoLaws
