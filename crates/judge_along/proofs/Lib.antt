pub mod AlongLaws
pub mod AlongLists
pub mod AlongSample
pub mod SideLaws
