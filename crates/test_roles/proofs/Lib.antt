mod TwoSources
