pub mod KeyLists
pub mod NameLemmas
