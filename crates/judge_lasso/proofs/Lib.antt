pub mod LassoLaws
